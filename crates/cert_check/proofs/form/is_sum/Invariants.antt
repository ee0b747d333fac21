use Rattle.std.proofs.Common.{◌≡◌}
use Rattle.cert_check.specs.Reading.{words, is_sum}
use Rattle.cert_check.specs.Parts.{parts_left}
use Rattle.cert_check.proofs.LinesRead.{left_length}
use Rattle.cert_check.proofs.form.is_sum.Given as goal

abbrev pub invariant-loop-rest : goal.invariant-loop-rest
invariant-loop-rest l = is_sum (parts_left 32 l.rest) ≡ is_sum (words l.fn.right)

abbrev pub decreases-loop-rest : goal.decreases-loop-rest
decreases-loop-rest l = left_length l.rest
