use Rattle.std.proofs.Common.{◌≡◌, ◌++◌, ◌^◌, ◌<◌, length}
use Rattle.anf_printer.specs.Text.{factors_text}
use Rattle.anf_printer.proofs.factors.push_factors.Given as goal

abbrev pub invariant-loop-rest : goal.invariant-loop-rest
invariant-loop-rest l = record {
  below : l.rest < 2 ^ length l.names;
  written : l.text.items ++ factors_text l.names l.rest ≡ l.fn.text.items ++ factors_text l.names l.fn.m;
}

abbrev pub decreases-loop-rest : goal.decreases-loop-rest
decreases-loop-rest l = l.rest
