use Rattle.std.proofs.Common.{ap, ◌∙◌, sym, ◌++◌}
use Rattle.crossbeam_channel.specs.Claims.{view}
use Rattle.file_relay.proofs.Messages.{came_through}
use Rattle.file_relay.proofs.Relays.{merges, totals}
use Rattle.file_relay.proofs.link.settle.Goals as goal

pub absorb-requires-clause-rule : goal.absorb-requires-clause-rule
absorb-requires-clause-rule c = merges _ _ _ _ (ap (λ v. v.sends) c.requires.sending) (ap (λ v. v.takes) c.requires.taking)

pub learn_as-requires-clause-rule : goal.learn_as-requires-clause-rule
learn_as-requires-clause-rule c = totals _ _ (ap (λ v. v.sends) c.absorb.ensures.rule) (ap (λ v. v.takes) c.absorb.ensures.rule)

pub returns : goal.returns
returns c =
    let both = c.absorb.ensures.rule in
    let told = c.learn_as.ensures.rule in
    came_through (view c.args.sending).sent (view c.args.taking).got told.0
    (sym (ap (λ v. v.sent) both) ∙ (told.1 ∙ ap (λ v. v.got ++ told.0) both)) c.requires.sent c.requires.got
