use Rattle.cert_check.specs.Reading.{parts}
use Rattle.cert_check.specs.Parts.{parts_left}
use Rattle.cert_check.proofs.LinesRead.{left_length, ReadsFactors}
use Rattle.cert_check.proofs.terms.product_of.Given as goal

abbrev pub invariant-loop-rest : goal.invariant-loop-rest
invariant-loop-rest l = ReadsFactors l.names (parts 42 l.fn.factors) (parts_left 42 l.rest) l.product l.least

abbrev pub decreases-loop-rest : goal.decreases-loop-rest
decreases-loop-rest l = left_length l.rest
