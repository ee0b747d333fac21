use Rattle.std.proofs.Common.{sym, ◌∙◌, subst}
use Rattle.probe_core.specs.Events.{start, MayTakeAll}
use Rattle.thread_tests.proofs.of_probe_core.three_slots_for_three_nodes.Goals as goal

pub run-requires-clause-events : goal.run-requires-clause-events
run-requires-clause-events g c =
    subst (MayTakeAll (start 4 3)) (c.as_slice.ensures.value ∙ sym c.as_slice-2.ensures.value) c.in_ok-core.ensures.may
