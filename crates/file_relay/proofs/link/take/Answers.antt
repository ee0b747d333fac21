use Rattle.std.proofs.Common.{ap, ◌∙◌}
use Rattle.file_relay.proofs.Relays.{gets}
use Rattle.file_relay.proofs.link.take.Goals as goal

pub recv_as-requires-clause-rule : goal.recv_as-requires-clause-rule
recv_as-requires-clause-rule g c = (gets _ _ (ap (λ v. v.takes) c.loop.invariant.2 ∙ c.requires.takes), λ items views h at. tt)
