-- What the two phases of a run find, by families.
use Rattle.std.specs.Prelude.{◌≡◌, ℕ, ◌+◌, ◌^◌, ◌<◌, ◌≤◌, ◌∷◌, ◌++◌, List, [], cond, length, map, reverse, take, drop, sum_by}
use Rattle.std.specs.Prelude.{◌-◌, slice_index_or}
use Rattle.std.specs.List.{All, AllZip, flat_map}
use Rattle.lattice.specs.Family.{Family, Covers, union_of}
use Rattle.lattice.specs.Interpolation.{interpolate}
use Rattle.lattice.specs.Basis.{IsLead, basis_element_of, leads_of, standard_of}
use Rattle.lattice.specs.Rows.{care_ones, care_zeros}
use Rattle.lattice.specs.WorkingLists.{basis_element_list, care_list, care_set, first_phase, interpolation_list, is_basis}
use Rattle.lattice.specs.WorkingLists.{output_numbers, second_phase, staircase_list, working_set}
use Rattle.lattice.specs.declared.kind.Mode.{Mode}
use Rattle.node_store.specs.Stores.{Denotes, Knows, State, family}
use Rattle.pla_reader.specs.Reading.{Description}
use Rattle.fork_branches.specs.Jobs.{Tasks}
use Rattle.anf_printer.specs.Text.{Answer}
use Rattle.node_store.specs.declared.store.Handle.{Handle}
use Rattle.set_algebra.specs.declared.points.ValuedPoints.{ValuedPoints}
pub use Rattle.set_algebra.specs.Terms.{terms_of}
use Rattle.interp_run.specs.declared.tasks.Task.{Task}
use Rattle.interp_run.specs.declared.tasks.Part.{Part}
use Rattle.interp_run.specs.declared.tasks.Part.TheVariants.{Polynomial, Leads, Element}
use Rattle.interp_run.specs.declared.phases.First.{First}

-- ---- an output

-- its care sets, and all its care points
abbrev pub zeros_in : Description → ℕ → Family
zeros_in d output = care_zeros d.inputs d.kind d.rows output

abbrev pub ones_in : Description → ℕ → Family
ones_in d output = care_ones d.inputs d.kind d.rows output

abbrev pub points_in : Description → ℕ → Family
points_in d output = care_set d.inputs d.kind d.rows output

-- the leads of its care points in mode basis, and none in mode anf
abbrev pub leads_in : Description → Mode → ℕ → Family
leads_in d mode output = cond (is_basis mode) (leads_of d.inputs (standard_of d.inputs (points_in d output))) []

-- ---- the parts of an answer, from care points with the value 0 and with the value 1

-- an element's lead is one of the points
abbrev pub IsPart : ℕ → Family → Part → Type 0
IsPart n points part = (lead : ℕ) → part ≡ Element lead → (lead < 2 ^ n) × IsLead n points lead

abbrev pub part_family : ℕ → Family → Family → Part → Family
part_family n zeros ones Polynomial = interpolate n zeros ones
part_family n zeros ones Leads = leads_of n (standard_of n (union_of n zeros ones))
part_family n zeros ones (Element lead) = basis_element_of n lead (union_of n zeros ones)

-- the families that are needed for an element
abbrev pub element_list : ℕ → ℕ → Family → List Family
element_list n lead points = points ∷ basis_element_list n lead points

abbrev pub part_list : ℕ → Family → Family → Part → List Family
part_list n zeros ones Polynomial = interpolation_list n zeros ones
part_list n zeros ones Leads = staircase_list n (union_of n zeros ones)
part_list n zeros ones (Element lead) = element_list n lead (union_of n zeros ones)

-- ---- tasks

-- the task is one of the description's
pub record IsTask (d : Description) (task : Task) : Type 0 where
  pub first : 1 ≤ task.output
  pub last : task.output ≤ d.outputs
  pub part : IsPart d.inputs (points_in d task.output) task.part

-- the family that a task finds, and those that it needs
abbrev pub task_family : Description → Task → Family
task_family d task = part_family d.inputs (zeros_in d task.output) (ones_in d task.output) task.part

abbrev pub task_list : Description → Task → List Family
task_list d task = part_list d.inputs (zeros_in d task.output) (ones_in d task.output) task.part

-- what stands past the end of a list of tasks
abbrev pub no_task : Task
no_task = record { output = 0; part = Polynomial }

-- what stands past the end of a list of care sets
abbrev pub no_cares : ValuedPoints
no_cares = record { zeros = record { 0 = 0 }; ones = record { 0 = 0 } }

-- the handles that tasks use, each with its family: the care sets of each output
abbrev pub zeros_used : Description → List ValuedPoints → ℕ → Handle × Family
zeros_used d cares output = ((slice_index_or cares (output - 1) no_cares).zeros, zeros_in d output)

abbrev pub ones_used : Description → List ValuedPoints → ℕ → Handle × Family
ones_used d cares output = ((slice_index_or cares (output - 1) no_cares).ones, ones_in d output)

-- the tasks as the jobs of a pool
abbrev pub jobs_of : Description → List ValuedPoints → List Task → Tasks
jobs_of d cares list = record {
  total = length list;
  vars = d.inputs;
  uses = map (zeros_used d cares) (output_numbers d.outputs) ++ map (ones_used d cares) (output_numbers d.outputs);
  wanted = λ number. task_family d (slice_index_or list number no_task);
  working = λ number. task_list d (slice_index_or list number no_task);
}

-- a part of an output's answer, and the element with a lead
abbrev pub task : Part → ℕ → Task
task part output = record { output = output; part = part }

abbrev pub element_task : ℕ → ℕ → Task
element_task output lead = task (Element lead) output

-- the tasks of phase 1: the polynomials, and then in mode basis the leads
abbrev pub first_tasks : Description → Mode → List Task
first_tasks d mode = map (task Polynomial) (output_numbers d.outputs)
    ++ cond (is_basis mode) (map (task Leads) (output_numbers d.outputs)) []

-- the tasks of phase 2: the elements of each output, by ascending lead
abbrev pub second_tasks : Description → Mode → List Task
second_tasks d mode = flat_map (λ output. map (element_task output) (leads_in d mode output)) (output_numbers d.outputs)

-- ---- what was found

-- the handles of the care sets of the first outputs
abbrev pub AreCares : State → Description → ℕ → List ValuedPoints → Type 0
AreCares s d count cares =
    AllZip (λ p output. Denotes s p.zeros (zeros_in d output) × Denotes s p.ones (ones_in d output)) cares (output_numbers count)

-- they were built, and what they needed is held
pub record CaresDone (s : State) (d : Description) (count : ℕ) (cares : List ValuedPoints) : Type 0 where
  pub each : AreCares s d count cares
  pub held : Covers s.held (working_set d.inputs (flat_map (care_list d.inputs d.kind d.rows) (output_numbers count)))

-- the store knows the handles, for these families
abbrev pub AreHandles : State → List Handle → List Family → Type 0
AreHandles s handles families = All (Knows s) handles × (map (family s) handles ≡ families)

-- the handles of what tasks find
abbrev pub AreOf : State → Description → List Handle → List Task → Type 0
AreOf s d found tasks = AreHandles s found (map (task_family d) tasks)

-- the tasks were done: these are the handles of their families, and what they needed is held
pub record AreDone (s : State) (d : Description) (tasks : List Task) (found : List Handle) : Type 0 where
  pub each : AreOf s d found tasks
  pub held : Covers s.held (working_set d.inputs (flat_map (task_list d) tasks))

-- phase 1 was done
pub record IsFirst (s : State) (d : Description) (mode : Mode) (first : First) : Type 0 where
  pub cares : AreCares s d d.outputs first.cares.items
  pub found : AreOf s d first.found.items (first_tasks d mode)
  pub held : Covers s.held (working_set d.inputs (first_phase d.inputs d.outputs d.kind d.rows mode))

-- the leads of each output, from the greatest down
abbrev pub AreLeads : Description → Mode → List Family → Type 0
AreLeads d mode lists = map reverse lists ≡ map (leads_in d mode) (output_numbers d.outputs)

-- the handles of an output: of its polynomial, and of the elements of its basis by ascending lead
pub record OutputHandles : Type 0 where
  pub polynomial : Handle
  pub basis : List Handle

-- the polynomials with the elements of their outputs, of which there are as many as the output has leads
unfoldable pub by_output : (leads : List Family) → (polynomials elements : List Handle) → List OutputHandles
by_output [] polynomials elements = []
by_output (leads ∷ rest) [] elements = []
by_output (leads ∷ rest) (p ∷ ps) elements =
    record { polynomial = p; basis = take (length leads) elements } ∷ by_output rest ps (drop (length leads) elements)

-- an output's polynomial, and its basis, which mode anf has none of
abbrev pub answer_for : Description → Mode → ℕ → Answer
answer_for d mode output = record {
  polynomial = interpolate d.inputs (zeros_in d output) (ones_in d output);
  basis = map (λ m. basis_element_of d.inputs m (points_in d output)) (leads_in d mode output);
}

abbrev pub answers_for : Description → Mode → List Answer
answers_for d mode = map (answer_for d mode) (output_numbers d.outputs)

-- ---- what is counted and printed

abbrev pub second_terms : State → List OutputHandles → ℕ
second_terms s outputs = sum_by (λ f. length (family s f.polynomial) + terms_of s f.basis) outputs

-- the store knows the handles
abbrev pub KnowsOutput : State → OutputHandles → Type 0
KnowsOutput s f = Knows s f.polynomial × All (Knows s) f.basis

-- an output's answer
abbrev pub answer_in : State → OutputHandles → Answer
answer_in s f = record { polynomial = family s f.polynomial; basis = map (family s) f.basis }

-- phase 2 was done
pub record IsSecond (s : State) (d : Description) (mode : Mode) (solved : List OutputHandles) : Type 0 where
  pub known : All (KnowsOutput s) solved
  pub answers : map (answer_in s) solved ≡ answers_for d mode
  pub held : Covers s.held (working_set d.inputs (second_phase d.inputs d.outputs d.kind d.rows mode))
