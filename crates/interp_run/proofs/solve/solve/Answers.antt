use Rattle.std.proofs.Common.{Err, ap}
use Rattle.pla_reader.specs.Reading.{description}
use Rattle.interp_run.proofs.SolvedAnswers.{unsolved_ends, unsolved_unfinished}
use Rattle.interp_run.proofs.solve.solve.Goals as goal

pub returns-in-Err-clause-err : goal.returns-in-Err-clause-err
returns-in-Err-clause-err g c = rw c.end_unsolved.ensures (unsolved_ends c.args.job.now (description c.args.pla.now) c.in-Err.refusal
    (λ is. c.in-Err.ensures.full (ap Err is)) (λ is. c.in-Err.ensures.terms (ap Err is)))

pub returns-in-Err-clause-unfinished : goal.returns-in-Err-clause-unfinished
returns-in-Err-clause-unfinished g c = rw c.end_unsolved.ensures (unsolved_unfinished c.args.job.now c.in-Err.refusal)
