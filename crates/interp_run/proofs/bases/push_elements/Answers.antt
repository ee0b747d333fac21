use Rattle.std.proofs.Common.{ap, ◌∙◌}
use Rattle.interp_run.proofs.PhaseLists.{with_more}
use Rattle.interp_run.proofs.bases.push_elements.Goals as goal

pub loop-lead-init : goal.loop-lead-init
loop-lead-init c = rw (ap (λ r. r.iter.rest.now) c.into_iter-lead-iterator.ensures.into_iter_gives
    ∙ (ap (λ i. i.rest.now) c.rev-lead-items.ensures.source ∙ (c.iter.ensures.rest ∙ c.as_slice.ensures)))

pub loop-lead-preserved : goal.loop-lead-preserved
loop-lead-preserved c = with_more c.args.output c.loop-lead.tasks.items c.push.new.self.items _ _ c.next.new.self.iter.rest.now
    c.in-Some.lead.now c.in-Some.ensures.steps c.in_ok-push.ensures.items c.loop-lead.invariant
