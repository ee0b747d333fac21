use Rattle.job_deques.specs.Dealt.{AreLending}
use Rattle.job_deques.proofs.lend.lend.Given as goal

abbrev pub ghost-lend_to : goal.ghost-lend_to
ghost-lend_to g a = g.l

abbrev pub invariant-loop-to : goal.invariant-loop-to
invariant-loop-to g l = AreLending g.l l.to 0 l.seats.items
