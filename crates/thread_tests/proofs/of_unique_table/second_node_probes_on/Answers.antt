use Rattle.std.proofs.Common.{◌∙◌}
use Rattle.unique_table.specs.PassOf.{pass_state}
use Rattle.thread_tests.proofs.TestedStores.{any_first}
use Rattle.thread_tests.proofs.of_unique_table.second_node_probes_on.Goals as goal

pub handles-requires : goal.handles-requires
handles-requires g c = any_first (pass_state c.pass-pass.result) _ 4 3 _ (c.pass-pass.ensures.state ∙ c.in_ok-table.ensures.state)
    c.any_plan.ensures
