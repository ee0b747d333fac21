use Rattle.node_store.proofs.StoreLaws.{Grows-refl}
use Rattle.diagram_measures.proofs.LeastLemmas.{begins, goes_high, goes_low, weight_met}
use Rattle.diagram_measures.proofs.MetLemmas.{IsAsked, high_falls, low_falls}
use Rattle.diagram_measures.proofs.least.least_member.Goals as goal
use Rattle.diagram_measures.proofs.least.least_member.Goals.{In-Some}
use Rattle.diagram_measures.proofs.least.least_member.Given.{Over}

asked : (g : Over) (c : In-Some g)
    → IsAsked (g.S.Store.state c.loop-node.store) (g.S.Store.state c.node.new.self) c.loop-node.rest c.in-Some.node
asked g c = record {
  sound = g.met.S.Store.sound c.node.new.self;
  known = c.loop-node.invariant.known;
  grows = c.node.ensures.reads.grows;
  is = c.in-Some.ensures.node;
  whole = c.in-Some.ensures.family;
}

pub loop-node-init : goal.loop-node-init
loop-node-init g c = begins (g.S.Store.state c.args.store.now) c.args.a (g.met.S.Store.sound c.args.store.now) c.requires

pub loop-node-smaller-then-node-eq0 : goal.loop-node-smaller-then-node-eq0
loop-node-smaller-then-node-eq0 g c = high_falls (asked g (goal.at.loop-node-smaller-then-node-eq0 g c).In-Some) (Grows-refl _)

pub loop-node-preserved-then-node-eq0 : goal.loop-node-preserved-then-node-eq0
loop-node-preserved-then-node-eq0 g c =
    let at = asked g (goal.at.loop-node-preserved-then-node-eq0 g c).In-Some in let so_far = c.loop-node.invariant in
    goes_high so_far at c.node.ensures.reads c.if-node-eq0.true (weight_met so_far at c.node.ensures.reads _ c.vars-vars.ensures)

pub loop-node-smaller : goal.loop-node-smaller
loop-node-smaller g c = low_falls (asked g (goal.at.loop-node-smaller g c).In-Some)

pub loop-node-preserved : goal.loop-node-preserved
loop-node-preserved g c =
    goes_low c.loop-node.invariant (asked g (goal.at.loop-node-preserved g c).In-Some) c.node.ensures.reads c.if-node-eq0.false
