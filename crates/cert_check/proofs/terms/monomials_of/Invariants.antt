use Rattle.cert_check.specs.Reading.{words}
use Rattle.cert_check.specs.Parts.{parts_left}
use Rattle.cert_check.proofs.LinesRead.{left_length, ReadsTerms}
use Rattle.cert_check.proofs.terms.monomials_of.Given as goal

abbrev pub invariant-loop-rest : goal.invariant-loop-rest
invariant-loop-rest l = ReadsTerms l.names (words l.fn.right) (parts_left 32 l.rest) l.limit l.monos

abbrev pub decreases-loop-rest : goal.decreases-loop-rest
decreases-loop-rest l = left_length l.rest
