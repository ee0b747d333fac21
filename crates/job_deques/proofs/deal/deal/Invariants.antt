use Rattle.job_deques.specs.Dealt.{AreApart, numbered}
use Rattle.job_deques.proofs.deal.deal.Given as goal

abbrev pub invariant-loop-number : goal.invariant-loop-number
invariant-loop-number g l = AreApart (numbered g.l l.number) l.seats.items
