use Rattle.std.proofs.Common.{refl}
use Rattle.diagram_measures.proofs.MeasureLemmas.{counts_join}
use Rattle.diagram_measures.proofs.measured.Counts.of_parts.Goals as goal

pub returns : goal.returns
returns c = counts_join c.args.low c.args.high _ refl c.max.ensures
