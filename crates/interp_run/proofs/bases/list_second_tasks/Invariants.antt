use Rattle.std.proofs.Common.{◌≡◌, map}
use Rattle.std.specs.List.{flat_map}
use Rattle.lattice.specs.Words.{output_numbers}
use Rattle.lattice.specs.declared.kind.Mode.{Mode}
use Rattle.pla_reader.specs.Reading.{description}
use Rattle.interp_run.specs.Phases.{AreLeads, element_task, leads_in}
use Rattle.interp_run.proofs.bases.list_second_tasks.Given as goal

-- the tasks of the outputs before
abbrev pub invariant-loop-before : goal.invariant-loop-before
invariant-loop-before l =
    let d = description l.pla in
    (mode : Mode) → AreLeads d mode l.leads
    → l.list.items ≡ flat_map (λ output. map (element_task output) (leads_in d mode output)) (output_numbers l.before)
