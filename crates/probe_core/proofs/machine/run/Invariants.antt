use Rattle.std.proofs.Common.{◌≡◌, drop}
use Rattle.probe_core.specs.Events.{start, after_all, MayTakeAll}
use Rattle.probe_core.proofs.machine.run.Given as goal

-- the events that are left may be taken, and lead to the last state
abbrev pub invariant-loop-e : goal.invariant-loop-e
invariant-loop-e l =
    let left = drop l.e-index l.events in MayTakeAll l.core left × (after_all l.core left ≡ after_all (start l.bits l.vars) l.events)
