use Rattle.std.proofs.Common.{◌≡◌, drop}
use Rattle.probe_core.specs.Events.{start, after_all, MayTakeAll}
use Rattle.thread_tests.proofs.of_probe_core.take_all.Given as goal

-- all events may be taken where those that are left may be, and these lead to the last state
abbrev pub invariant-loop-e : goal.invariant-loop-e
invariant-loop-e g l = let left = drop l.e-index l.events in
    (MayTakeAll l.core left → MayTakeAll (start 4 3) l.events) × (after_all l.core left ≡ after_all (start 4 3) l.events)
