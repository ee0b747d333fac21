use Rattle.std.proofs.Common.{ap, ◌∙◌}
use Rattle.file_relay.proofs.Relays.{sends}
use Rattle.file_relay.proofs.link.send.Goals as goal

pub send_as-requires-clause-rule : goal.send_as-requires-clause-rule
send_as-requires-clause-rule g c = (sends _ _ _ _ (ap (λ v. v.sends) c.loop.invariant.2 ∙ c.requires.sends), λ items views h at. tt)
