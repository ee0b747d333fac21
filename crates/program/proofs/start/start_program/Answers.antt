use Rattle.std.proofs.Common.{inr, refl}
use Rattle.program.specs.declared.outcome.Outcome.TheVariants as ends
use Rattle.program.proofs.Streams.{keeps_same}
use Rattle.program.proofs.start.start_program.Goals as goal

pub returns-in_default-clause-ran : goal.returns-in_default-clause-ran
returns-in_default-clause-ran g c = (
  ends.Memory,
  c.end_without_memory.ensures.status,
  inr (refl, keeps_same (g.K.Sink.held c.args.out.now), refl),
  c.end_without_memory.ensures.line,
)
