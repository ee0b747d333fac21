use Rattle.std.proofs.Common.{◌+◌, ◌*◌, length, not}
use Rattle.std.specs.List.{count_by}
use Rattle.aig_reader.specs.Order.{ordered}
use Rattle.aig_reader.proofs.Walks.{IsWalk}
use Rattle.aig_reader.proofs.order.Walk.place.Given as goal

abbrev pub invariant-loop-last : goal.invariant-loop-last
invariant-loop-last l = IsWalk l.inputs l.lines l.variable (ordered l.fn.self.order) l.self

abbrev pub decreases-loop-last : goal.decreases-loop-last
decreases-loop-last l = 2 * count_by not l.self.seen.items + length l.self.path.items
