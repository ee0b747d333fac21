use Rattle.std.proofs.Common.{◌≡◌, ◌<◌, ◌∙◌, ℕ, List, length, subst}
use Rattle.file_stream.specs.Files.{IsPiece}
use Rattle.file_stream.specs.declared.cutter.Piece.{Piece}
use Rattle.program.specs.Duties.{IsDueFor}
use Rattle.program.specs.Runs.{EndsWithout}
use Rattle.pla_reader.specs.declared.reading.TheConstants.{MOST_BYTES}
use Rattle.program.specs.declared.outcome.Outcome.TheVariants as ends
use Rattle.interp_run.specs.Duty.{interp_duty}
use Rattle.batch_pipe.proofs.Answered.{due_alone, ends_alone, long_alone}
use Rattle.batch_pipe.proofs.answering.FileSolverAnswerer.answer.Goals as goal

pub returns-in-Long : goal.returns-in-Long
returns-in-Long g c = λ bytes is.
    let job = c.args.self.now.job.now in
    let over : MOST_BYTES < length bytes = subst (λ (p : Piece). IsPiece p bytes) c.in-Long.is is in
    due_alone job bytes (ends.TooLong MOST_BYTES) c.without_answer.result (long_alone job bytes c.requires.ready.1 over)
    c.without_answer.ensures.answer

pub returns-in-Err : goal.returns-in-Err
returns-in-Err g c = λ bytes is.
    let job = c.args.self.now.job.now in
    let same : c.as_slice.result.now ≡ bytes = c.as_slice.ensures ∙ (subst (λ (p : Piece). IsPiece p bytes) c.in-Kept.is is).0 in
    ends_alone job bytes c.without_answer-in-Err.result
    (subst (λ (l : List ℕ). EndsWithout (IsDueFor interp_duty job l) c.in-Err.outcome) same c.in-Err.ensures.err)
    c.without_answer-in-Err.ensures.answer c.without_answer-in-Err.ensures.remembered
