use Rattle.node_store.specs.Stores.{Grows}
use Rattle.pla_reader.specs.Reading.{description}
use Rattle.interp_run.specs.Phases.{CaresDone}
use Rattle.interp_run.proofs.cover_jobs.build_cares.Given as goal

-- the care sets of the outputs before
abbrev pub invariant-loop-before : goal.invariant-loop-before
invariant-loop-before g l = record {
  grows : Grows (g.S.Store.state l.fn.store) (g.S.Store.state l.store);
  cares : CaresDone (g.S.Store.state l.store) (description l.pla) l.before l.cares.items;
}
