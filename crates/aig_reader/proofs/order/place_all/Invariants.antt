use Rattle.aig_reader.specs.Order.{ArePlaced, IsResting, ordered}
use Rattle.aig_reader.proofs.order.place_all.Given as goal

abbrev pub invariant-loop-k : goal.invariant-loop-k
invariant-loop-k l = record {
  placed : ArePlaced l.inputs l.lines l.k (ordered l.walk.order);
  resting : IsResting l.inputs l.lines l.walk;
}
