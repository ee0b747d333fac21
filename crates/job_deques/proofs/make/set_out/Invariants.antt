use Rattle.job_deques.specs.Dealt.{numbered}
use Rattle.job_deques.proofs.make.set_out.Given as goal

abbrev pub ghost-deal : goal.ghost-deal
ghost-deal g a = g.l

abbrev pub ghost-lend : goal.ghost-lend
ghost-lend g a = numbered g.l g.l.count
