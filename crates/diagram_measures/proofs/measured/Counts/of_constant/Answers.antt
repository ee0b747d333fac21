use Rattle.std.proofs.Common.{arith}
use Rattle.node_store.specs.Stores.{family}
use Rattle.node_store.proofs.StoreLaws.{zero_family, one_family}
use Rattle.diagram_measures.proofs.MeasureLemmas.{counts_empty, counts_unit}
use Rattle.diagram_measures.proofs.measured.Counts.of_constant.Goals as goal

pub returns-then-a-eq0 : goal.returns-then-a-eq0
returns-then-a-eq0 c s sound = counts_empty (family s c.args.a) (zero_family s c.args.a sound c.if-a-eq0.true)

pub returns-else-a-eq0 : goal.returns-else-a-eq0
returns-else-a-eq0 c s sound = counts_unit (family s c.args.a) (one_family c.args.a sound (omega (arith, c.requires, c.if-a-eq0.false)))
