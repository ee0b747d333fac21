use Rattle.std.proofs.Common.{arith}
use Rattle.lattice.proofs.Diagrams.{level-below, weight_is}
use Rattle.node_store.proofs.StoreLaws.{node_level}
use Rattle.set_algebra.proofs.halves.split.Goals as goal

pub returns-clause-halves : goal.returns-clause-halves
returns-clause-halves g c = grind (arith, node_level, weight_is, level-below)
