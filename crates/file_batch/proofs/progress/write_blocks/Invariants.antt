use Rattle.std.proofs.Common.{◌≡◌, true, false, []}
use Rattle.crossbeam_channel.specs.Claims.{view, IsSeatAt}
use Rattle.crossbeam_channel.specs.Ends.{receives_on}
use Rattle.file_relay.specs.Messages.{has_no_end}
use Rattle.file_relay.specs.Relayed.{log}
use Rattle.file_batch.specs.Progress.{IsCaused, Progress}
use Rattle.file_batch.proofs.progress.write_blocks.Given as goal

abbrev pub invariant-loop : goal.invariant-loop
invariant-loop g l = record {
  channel : IsSeatAt (receives_on l.inlet) l.pass × (l.pass.id ≡ l.fn.pass.id);
  role : view l.pass ≡ log false true [] (view l.pass).got;
  unended : has_no_end (view l.pass).got ≡ true;
  progress : Progress (g.A.Answerer.answers l.answerer) (g.K.Sink.held l.fn.out) (g.K.Sink.held l.out) (view l.pass).got l.written;
  untouched : (view l.pass).got ≡ [] → l.out ≡ l.fn.out;
  cause : IsCaused (g.K.Sink.faults l.fn.out) (g.K.Sink.faults l.out) l.written;
}
