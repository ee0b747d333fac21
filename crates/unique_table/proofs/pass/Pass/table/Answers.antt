use Rattle.std.proofs.Common.{ap, Some}
use Rattle.unique_table.specs.Views.{name_of, view_state}
use Rattle.unique_table.specs.Passes.{table_name}
use Rattle.unique_table.specs.PassOf.{pass_state}
use Rattle.unique_table.proofs.pass.Pass.table.Goals as goal

pub returns : goal.returns
unfolding pass_state table_name view_state
returns c = ap (λ z. Some (name_of z)) c.args.self.now.of
