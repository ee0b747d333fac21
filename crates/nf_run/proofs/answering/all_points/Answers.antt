use Rattle.node_store.proofs.StoreLaws.{Grows-trans}
use Rattle.pla_reader.specs.Reading.{description}
use Rattle.nf_run.proofs.QueryAnswers.{held_more}
use Rattle.nf_run.proofs.answering.all_points.Goals as goal

pub loop-before-preserved : goal.loop-before-preserved
loop-before-preserved g c = record {
  grows = Grows-trans _ _ _ c.loop-before.invariant.grows c.in_ok-points_for.ensures.grows;
  first = held_more (description c.args.p.now) c.args.queries.now _ _ c.loop-before.before c.loop-before.points.items c.push.new.self.items
      c.in_ok-points_for.field-0 c.in_ok-points_for.ensures.grows c.loop-before.invariant.first c.in_ok-points_for.ensures.points
      c.in_ok-push.ensures.items;
}
