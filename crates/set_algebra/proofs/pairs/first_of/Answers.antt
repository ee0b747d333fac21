use Rattle.std.proofs.Common.{arith}
use Rattle.set_algebra.proofs.pairs.first_of.Goals as goal

pub returns-in-Some-Some : goal.returns-in-Some-Some
returns-in-Some-Some c n = rw (c.in-Some-Some.is-0, c.in-Some-Some.is-1) (omega (arith, c.min.ensures))

pub returns-in-Some-None : goal.returns-in-Some-None
returns-in-Some-None c n = rw (c.in-Some-None.is-0, c.in-Some-None.is-1) (omega arith)

pub returns-in-None-default : goal.returns-in-None-default
returns-in-None-default c n = rw (c.in-None-default.is-0, c.unwrap.ensures) (omega arith)
