use Rattle.node_store.specs.Stores.{Grows}
use Rattle.pla_reader.specs.Reading.{description}
use Rattle.nf_run.proofs.QueryAnswers.{HoldsFirst}
use Rattle.nf_run.proofs.answering.all_points.Given as goal

-- the care points of the outputs so far
abbrev pub invariant-loop-before : goal.invariant-loop-before
invariant-loop-before g l = record {
  grows : Grows (g.S.Store.state l.fn.store) (g.S.Store.state l.store);
  first : HoldsFirst (description l.p) l.queries (g.S.Store.state l.store) l.before l.points.items;
}
