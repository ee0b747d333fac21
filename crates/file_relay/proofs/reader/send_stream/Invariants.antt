use Rattle.std.proofs.Common.{◌+◌, ◌-◌, ◌≡◌, ◌≤◌, ℕ, List, true, false, [], length}
use Rattle.std.specs.Io.KnownBytes.{Consumes}
use Rattle.crossbeam_channel.specs.Claims.{view, IsSeatAt}
use Rattle.crossbeam_channel.specs.Ends.{sends_on}
use Rattle.file_relay.specs.Reading.{IsSent}
use Rattle.file_relay.specs.Relayed.{log}
use Rattle.file_relay.proofs.reader.send_stream.Given as goal

abbrev pub invariant-loop-total : goal.invariant-loop-total
invariant-loop-total g l = record {
  channel : IsSeatAt (sends_on l.outlet) l.pass × (l.pass.id ≡ l.fn.pass.id);
  role : view l.pass ≡ log true false (view l.pass).sent [];
  sent : (read : List ℕ) × IsSent l.cutter l.number read (view l.pass).sent
      × Consumes (g.S.Source.left l.fn.source) (g.S.Source.left l.source) read × (l.total ≡ length read);
  faults : g.S.Source.faults l.source ≡ g.S.Source.faults l.fn.source;
  size : length l.piece ≡ 4096;
  number : l.number ≤ l.total;
  total : l.total ≤ 67108864 + 4096;
}

abbrev pub decreases-loop-total : goal.decreases-loop-total
decreases-loop-total g l = 67108864 + 1 - l.total
