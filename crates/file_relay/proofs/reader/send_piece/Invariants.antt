use Rattle.std.proofs.Common.{◌+◌, ◌++◌, ◌≡◌, ◌≤◌, ℕ, List, true, false, [], take}
use Rattle.crossbeam_channel.specs.Claims.{view, IsSeatAt}
use Rattle.crossbeam_channel.specs.Ends.{sends_on}
use Rattle.file_relay.specs.Reading.{IsSent}
use Rattle.file_relay.specs.Relayed.{log}
use Rattle.file_relay.proofs.reader.send_piece.Given as goal

abbrev pub invariant-loop-byte : goal.invariant-loop-byte
invariant-loop-byte g l = record {
  channel : IsSeatAt (sends_on l.outlet) l.pass × (l.pass.id ≡ l.fn.pass.id);
  role : view l.pass ≡ log true false (view l.pass).sent [];
  few : l.number ≤ l.fn.number + l.byte-index;
  fed : (read : List ℕ) → IsSent l.fn.cutter l.fn.number read (view l.fn.pass).sent
      → IsSent l.cutter l.number (read ++ take l.byte-index l.bytes) (view l.pass).sent;
}
