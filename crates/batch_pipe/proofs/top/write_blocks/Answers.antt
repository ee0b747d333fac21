use Rattle.std.proofs.Common.{◌∙◌, ap, Err, refl, subst, sym, ⊎_elim}
use Rattle.std.proofs.KnownBytes.{Keeps-refl}
use Rattle.program.specs.declared.outcome.Outcome.{Outcome}
use Rattle.program.specs.declared.outcome.NoEnd.{NoEnd}
use Rattle.batch_pipe.specs.Runs.{Ends, no_job, stopped, written}
use Rattle.batch_pipe.proofs.Stops.{stop_long, stop_not_done, stop_not_usage, stop_read, stop_write}
use Rattle.batch_pipe.proofs.top.write_blocks.Goals as goal

pub returns-in-Err-clause-ends : goal.returns-in-Err-clause-ends
returns-in-Err-clause-ends g c = no_job _ c.in-Err.ensures.err refl (Keeps-refl (g.K.Sink.held c.args.out.now))

pub returns-in-Ok-write_batch-clause-ends : goal.returns-in-Ok-write_batch-clause-ends
returns-in-Ok-write_batch-clause-ends g c = written c.in-Ok.job c.in-Ok.ensures.ok.0 c.in-Ok-write_batch.ensures.whole

pub returns-clause-ends : goal.returns-clause-ends
returns-clause-ends g c =
    subst (λ (o : Outcome NoEnd). Ends c.args.words.now (g.S.Source.left c.args.source.now) (g.S.Source.left c.write_batch.new.source)
    (g.K.Sink.held c.args.out.now) (g.K.Sink.held c.write_batch.new.out) o) (sym c.outcome_of.ensures)
    (stopped c.in-Ok.job c.in-Err-write_batch.stop c.in-Ok.ensures.ok.0 c.write_batch.ensures.part)

pub returns-clause-untouched : goal.returns-clause-untouched
returns-clause-untouched g c = λ is. absurd (stop_not_usage c.in-Err-write_batch.stop (sym c.outcome_of.ensures ∙ is))

pub returns-clause-read : goal.returns-clause-read
returns-clause-read g c = λ is.
    c.in-Err-write_batch.ensures.read (ap Err (stop_read c.in-Err-write_batch.stop (sym c.outcome_of.ensures ∙ is)))

pub returns-clause-write : goal.returns-clause-write
returns-clause-write g c = λ is.
    c.in-Err-write_batch.ensures.write (ap Err (stop_write c.in-Err-write_batch.stop (sym c.outcome_of.ensures ∙ is)))

pub returns-clause-through : goal.returns-clause-through
returns-clause-through g c =
    ⊎_elim (λ is. absurd (stop_not_done c.in-Err-write_batch.stop (sym c.outcome_of.ensures ∙ is)))
    (λ is. c.in-Err-write_batch.ensures.through (ap Err (stop_write c.in-Err-write_batch.stop (sym c.outcome_of.ensures ∙ is))))

pub returns-clause-long : goal.returns-clause-long
returns-clause-long g c = λ is.
    c.in-Err-write_batch.ensures.long (ap Err (stop_long c.in-Err-write_batch.stop (sym c.outcome_of.ensures ∙ is)))
