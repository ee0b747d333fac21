use Rattle.job_deques.specs.Dealt.{AreLending}
use Rattle.job_deques.proofs.lend.lend_to.Given as goal

abbrev pub ghost-lend_one : goal.ghost-lend_one
ghost-lend_one g a = g.l

abbrev pub invariant-loop-deque : goal.invariant-loop-deque
invariant-loop-deque g l = AreLending g.l l.to l.deque l.seats.items
