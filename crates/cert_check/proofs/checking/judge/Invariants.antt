use Rattle.std.proofs.Common.{◌≡◌, ◌+◌, drop}
use Rattle.pla_reader.specs.Reading.{description}
use Rattle.cert_check.specs.Faults.{first_verdict, checks_from, verdict_on}
use Rattle.cert_check.proofs.checking.judge.Given as goal

abbrev pub invariant-loop-given : goal.invariant-loop-given
invariant-loop-given l = record {
  number : l.output ≡ l.given-index;
  goes_on : verdict_on (description l.p) l.answer
      ≡ first_verdict (checks_from (description l.p) (l.given-index + 1) (drop l.given-index l.answer));
}
