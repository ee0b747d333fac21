use Rattle.unique_table.specs.Views.{view_state}
use Rattle.unique_table.specs.Passes.{token_state, token_steps, table_name}
use Rattle.unique_table.specs.PassOf.{pass_state, pass_steps}
use Rattle.unique_table.proofs.Steps.{table_same}
use Rattle.unique_table.proofs.pass.Shared.pass.Goals as goal

pub invariant_of-result-clause-of : goal.invariant_of-result-clause-of
unfolding token_state table_name view_state
invariant_of-result-clause-of c = table_same _ _ c.requires

pub returns : goal.returns
unfolding pass_state token_state pass_steps token_steps
returns c = assumption
