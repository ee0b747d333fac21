use Rattle.std.proofs.Common.{◌≡◌}
use Rattle.crossbeam_channel.specs.Claims.{view, IsSeatAt}
use Rattle.crossbeam_channel.specs.Ends.{sends_on}
use Rattle.file_relay.proofs.link.send.Given as goal

abbrev pub invariant-loop : goal.invariant-loop
invariant-loop g l = IsSeatAt (sends_on l.outlet) l.pass × (l.pass.id ≡ l.fn.pass.id) × (view l.pass ≡ view l.fn.pass)
    × (l.message ≡ l.fn.message)
