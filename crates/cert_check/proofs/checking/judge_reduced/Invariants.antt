use Rattle.std.proofs.Common.{◌≡◌, ℕ, List, drop, map}
use Rattle.lattice.specs.Words.{has, family_where}
use Rattle.cert_check.specs.Marks.{CountsDivisors}
use Rattle.cert_check.specs.Faults.{first_verdict, reduced_checks}
use Rattle.cert_check.proofs.RightAnswers.{tail_check}
use Rattle.cert_check.proofs.checking.judge_reduced.Given as goal

abbrev pub invariant-loop-element : goal.invariant-loop-element
invariant-loop-element l = (n : ℕ) (tops : List ℕ) → CountsDivisors n (family_where n (has tops)) l.counts →
    first_verdict (reduced_checks tops l.given) ≡ first_verdict (map (tail_check tops) (drop l.element-index l.given.basis))
