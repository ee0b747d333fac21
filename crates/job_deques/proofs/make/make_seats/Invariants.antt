use Rattle.job_deques.specs.Dealt.{layout_of}
use Rattle.job_deques.proofs.make.make_seats.Given as goal

abbrev pub ghost-set_out : goal.ghost-set_out
ghost-set_out a = layout_of a.seats.now.items a.count
