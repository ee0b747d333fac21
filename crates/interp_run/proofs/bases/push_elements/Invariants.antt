use Rattle.std.proofs.Common.{◌≡◌, ◌++◌, map, reverse}
use Rattle.interp_run.specs.Phases.{element_task}
use Rattle.interp_run.proofs.bases.push_elements.Given as goal

-- with the tasks of the leads that are left they are all
abbrev pub invariant-loop-lead : goal.invariant-loop-lead
invariant-loop-lead l =
    l.tasks.items ++ map (element_task l.output) (reverse l.lead-iterator.iter.rest.now) ≡
    l.fn.tasks.items ++ map (element_task l.output) (reverse l.leads)
