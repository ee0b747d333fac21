use Rattle.std.proofs.Common.{sym, subst, arith}
use Rattle.aig_reader.specs.Order.{ArePlaced, none_placed, ordered}
use Rattle.aig_reader.proofs.Walks.{rests, placed_more, first_on_itself}
use Rattle.aig_reader.proofs.order.place_all.Goals as goal

pub loop-k-init : goal.loop-k-init
loop-k-init c =
    let new = c.in_ok-walk.ensures in record {
      placed = subst (ArePlaced c.args.inputs c.args.lines.now 0) (sym new.order) none_placed;
      resting = rests c.args.inputs c.args.lines.now c.in_ok-walk.walk new.order new.seen new.path;
    }

pub returns-then-not-branch-clause-placed : goal.returns-then-not-branch-clause-placed
returns-then-not-branch-clause-placed c =
    first_on_itself c.args.inputs c.args.lines.now c.loop-k.k (ordered c.loop-k.walk.order) c.loop-k.invariant.placed
    (omega arith) (c.in_ok-place.ensures.on_itself c.if-not-branch.true)

pub loop-k-preserved : goal.loop-k-preserved
loop-k-preserved c = record {
  placed = placed_more c.args.inputs c.args.lines.now c.loop-k.k (ordered c.loop-k.walk.order) (ordered c.place.new.self.order)
      c.loop-k.invariant.placed (c.in_ok-place.ensures.placed c.if-not-branch.false);
  resting = c.in_ok-place.ensures.resting c.if-not-branch.false;
}
