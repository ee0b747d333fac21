use Rattle.std.proofs.Common.{ap, not}
use Rattle.interp_run.specs.Due.{is_gen}
use Rattle.interp_run.proofs.top.InterpProgram.answer.Goals as goal

pub returns-in-Check-clause-answers : goal.returns-in-Check-clause-answers
returns-in-Check-clause-answers g c = c.write_verdict.ensures.answers _ _

pub returns-in-Gen-clause-answers : goal.returns-in-Gen-clause-answers
returns-in-Gen-clause-answers g c =
    rw (c.requires.unread (ap (λ m. not (is_gen m)) c.in-Gen.is)) (c.write_summary.ensures.answers _)
