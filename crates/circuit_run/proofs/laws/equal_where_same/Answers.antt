use Rattle.circuit_run.proofs.Differences.{equal_where_same}
use Rattle.circuit_run.proofs.laws.equal_where_same.Goals as goal

pub returns : goal.returns
returns c = equal_where_same c.matched_values.ensures
