use Rattle.std.proofs.Common.{[], refl}
use Rattle.std.proofs.KnownBytes.{Keeps-refl}
use Rattle.program.specs.Runs.{no_memory_for_words}
use Rattle.program.specs.declared.outcome.Outcome.TheVariants as ends
use Rattle.batch_pipe.specs.Runs.{no_job}
use Rattle.batch_pipe.proofs.top.start_batch.Goals as goal

pub returns-in_default-clause-ran : goal.returns-in_default-clause-ran
returns-in_default-clause-ran g c = (
  ends.Memory,
  c.report.ensures.status,
  [],
  no_job ends.Memory (no_memory_for_words tt) refl (Keeps-refl (g.K.Sink.held c.args.out.now)),
  c.report.ensures.line,
)
