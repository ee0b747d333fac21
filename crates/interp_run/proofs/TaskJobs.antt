-- Covers and tasks as the jobs of a pool: what they use, what they need, and what they give.
use Rattle.std.specs.List.{Contains, flat_map, zip}
use Rattle.std.proofs.Common.{◌≡◌, ℕ, zero, suc, ◌+◌, ◌*◌, ◌/◌, ◌%◌, ◌-◌, ◌^◌, ◌<◌, ◌≤◌, List, [], ◌∷◌, drop, get_or, length, map, take}
use Rattle.std.proofs.Common.{Result, Ok, refl, sym, subst, ◌∙◌, arith, ⊎_elim, length-drop, mul_comm}
use Rattle.std.proofs.Math.Nat.{div-lt_iff_lt-mul}
use Rattle.std.proofs.lemmas.List.{get_or-drop, get_or-map, get_or-take, length-map, length-take-le, same_lists}
use Rattle.std.proofs.lemmas.List.Elements.{All-from_get_or, Contains-append_left, Contains-append_right, Contains-append_cases}
use Rattle.std.proofs.lemmas.Nat.{div-mul-add, mod-mul-add, mod_below, mul-add-lt}
use Rattle.lattice.specs.Words.{Family, AreDisjoint, Covers, union_of, IsLead, IsConsistent, output_numbers, working_set}
use Rattle.lattice.specs.declared.kind.Kind.{Kind}
use Rattle.lattice.specs.declared.row.Row.{Row}
use Rattle.lattice.proofs.Diagrams.{covers_append, covers_nil, covers_part, covers_tail, part_at}
use Rattle.lattice.proofs.Polynomials.{care_points_disjoint, zip_from}
use Rattle.node_store.specs.Stores.{State, Builds, Denotes, Gives, Grows, Knows, family}
use Rattle.node_store.specs.declared.store.Full.{Full}
use Rattle.node_store.specs.declared.store.Handle.{Handle}
use Rattle.node_store.proofs.StoreLaws.{Denotes-family, Denotes-knows, found_built, found_gives, found_start, gives_as}
use Rattle.pla_reader.specs.Reading.{Description}
use Rattle.set_algebra.specs.declared.points.ValuedPoints.{ValuedPoints}
use Rattle.cube_build.specs.GivenCareSets.{AreCovers, IsCover}
use Rattle.cube_build.specs.PointSets.{sets_of}
use Rattle.cube_build.specs.UsedCubes.{AreCubes, used_cube}
use Rattle.cube_build.specs.declared.covers.PointSet.{PointSet}
use Rattle.cube_build.specs.declared.covers.PointSet.TheVariants.{On}
use Rattle.cube_build.proofs.CareNeeds.{cover_later, cover_planned}
use Rattle.fork_branches.specs.Jobs.{KnowsUses}
use Rattle.fork_branches.specs.Solves.{AreSolved}
use Rattle.fork_branches.specs.Work.{MayWork}
use Rattle.interp_run.specs.CoverJobs.{AreAllCovers, cover_count, cover_jobs, output_of}
use Rattle.interp_run.specs.Phases.{AreCares, AreDone, IsPart, IsTask, jobs_of, no_cares, no_task, ones_in, ones_used, part_family}
use Rattle.interp_run.specs.Phases.{part_list, task_family, task_list, zeros_in, zeros_used}
use Rattle.interp_run.specs.declared.tasks.Task.{Task}
use Rattle.interp_run.proofs.OutputLists.{length-output_numbers, number_at, uses_at, uses_from, zip_output}
use Rattle.interp_run.proofs.PhaseLists.{IsCare, care_planned, cares_list}

-- ---- the cubes that covers use

module _ (s : State) (n : ℕ) (vars : s.vars ≡ n) where
  cubes_known : (rows : List Row) (cubes : List Handle) → AreCubes s rows cubes → (h : Handle) (f : Family)
      → Contains (zip cubes (map (used_cube n) rows)) (h, f) → Denotes s h f
  cubes_known [] [] are h f (k, less, is) = absurd (omega (arith, less))
  cubes_known [] (c ∷ cubes) are h f among = absurd are
  cubes_known (r ∷ rows) [] are h f among = absurd are
  cubes_known (r ∷ rows) (c ∷ cubes) are h f (zero, less, is) = subst (λ (p : Handle × Family). Denotes s p.0 p.1) is (rw vars at are.0)
  cubes_known (r ∷ rows) (c ∷ cubes) are h f (suc k, less, is) = cubes_known rows cubes are.1 h f (k, omega (arith, less), is)

  pub cubes_from_uses : (rows : List Row) (cubes : List Handle) → length cubes ≡ length rows
      → ((h : Handle) (f : Family) → Contains (zip cubes (map (used_cube n) rows)) (h, f) → Denotes s h f) → AreCubes s rows cubes
  cubes_from_uses [] [] long knows = tt
  cubes_from_uses [] (c ∷ cubes) long knows = absurd (omega (arith, long))
  cubes_from_uses (r ∷ rows) [] long knows = absurd (omega (arith, long))
  cubes_from_uses (r ∷ rows) (c ∷ cubes) long knows = (
    rw vars (knows c (used_cube n r) (0, omega arith, refl)),
    cubes_from_uses rows cubes (omega (arith, long)) (λ h f i. knows h f (suc i.0, omega (arith, i.1), i.2)),
  )

-- ---- covers

sets_some : (kind : Kind) → (1 ≤ length (sets_of kind)) × (length (sets_of kind) ≤ 3)
sets_some kind = grind arith

module _ (d : Description) where
  abbrev n : ℕ
  n = length (sets_of d.kind)

  pub covers_few : d.outputs ≤ 64 → cover_count d ≤ 192
  covers_few few = let some = sets_some d.kind in grind arith

  pub output_below : (x : ℕ) → x < cover_count d → x / n < d.outputs
  output_below x less = (div-lt_iff_lt-mul (sets_some d.kind).0).1 less

  pub set_below : (x : ℕ) → x % n < n
  set_below x = mod_below x n (sets_some d.kind).0

  -- what they need and give
  pub may_cover : (s : State) (cubes : List Handle) → d.outputs ≤ 64 → s.vars ≡ d.inputs → AreCubes s d.rows cubes
      → Covers s.plan (working_set d.inputs (cares_list d d.outputs)) → MayWork (cover_jobs d cubes) s
  may_cover s cubes few vars are planned = record {
    few = omega (arith, covers_few few);
    vars = vars;
    uses = cubes_known s d.inputs vars d.rows cubes are;
    planned = λ x less. cover_planned s.plan d.inputs d.kind d.rows (output_of d x) (x % n) On (set_below x)
        (care_planned d s.plan (x / n) (output_below x less) planned);
  }

  -- the covers of one output, in a later state
  pub output_covers : (s t : State) (sets : List PointSet) (covers : List Handle) (before : ℕ) → sets ≡ sets_of d.kind → before < d.outputs
      → Grows s t → AreAllCovers s d covers → AreCovers t d.kind d.rows (before + 1)
      (take (before * length sets + length sets - before * length sets) (drop (before * length sets) covers))
  output_covers s t sets covers before all less grows are =
      let size : before * length sets + length sets - before * length sets ≡ length sets = omega arith in
      let none : Handle = record { 0 = 0 } in let first : ℕ = before * n in
      let below : (k : ℕ) → k < n → first + k < cover_count d =
      λ k within. omega (arith, mul-add-lt before n k d.outputs less within, mul_comm n d.outputs) in
      let room : n ≤ length (drop first covers) =
      omega (arith, length-drop first covers, are.count, below (n - 1) (omega (arith, (sets_some d.kind).0)), (sets_some d.kind).0) in
      rw (size, all) (zip_from (IsCover t d.rows (before + 1)) (sets_of d.kind) (take n (drop first covers)) On none
      (sym (length-take-le n (drop first covers) room))
      (λ k within. rw (get_or-take n (drop first covers) k none within, get_or-drop first covers k none)
      (cover_later s t d.rows (before + 1) _ _ grows
      (rw (div-mul-add before n k within, mod-mul-add before n k within) at (are.each (first + k) none (below k within))))))

-- ---- what tasks use: the care sets of each output

module _ (s : State) (d : Description) (cares : List ValuedPoints) (list : List Task) where
  pub cares_from_uses : length cares ≡ d.outputs → KnowsUses (jobs_of d cares list) s → AreCares s d d.outputs cares
  cares_from_uses many knows = zip_from (IsCare d s) cares (output_numbers d.outputs) no_cares 0
      (many ∙ sym (length-output_numbers d.outputs))
      (λ k less. let within : k < d.outputs = omega (arith, less, many) in
      let at : k + 1 - 1 ≡ k = omega arith in
      let here : IsCare d s (get_or cares (k + 1 - 1) no_cares) (k + 1) = (
        knows _ _ (Contains-append_left _ _ _ (uses_at (zeros_used d cares) d.outputs k within)),
        knows _ _ (Contains-append_right _ _ _ (uses_at (ones_used d cares) d.outputs k within)),
      ) in
      rw (number_at d.outputs k 0 within) (rw at at here))

  uses_from_cares : AreCares s d d.outputs cares → KnowsUses (jobs_of d cares list) s
  uses_from_cares are h f among = ⊎_elim
      (λ i. let from = uses_from (zeros_used d cares) d.outputs (h, f) i in
      subst (λ (p : Handle × Family). Denotes s p.0 p.1) from.2 (here from.0 from.1).0)
      (λ i. let from = uses_from (ones_used d cares) d.outputs (h, f) i in
      subst (λ (p : Handle × Family). Denotes s p.0 p.1) from.2 (here from.0 from.1).1)
      (Contains-append_cases (map (zeros_used d cares) (output_numbers d.outputs)) _ (h, f) among)
    where
      here : (k : ℕ) → k < d.outputs → IsCare d s (get_or cares (k + 1 - 1) no_cares) (k + 1)
      here k less = let at : k + 1 - 1 ≡ k = omega arith in rw at (zip_output (IsCare d s) cares d.outputs k no_cares are less)

  -- what they need and give
  pub may_work : length list < 2 ^ 30 → s.vars ≡ d.inputs → AreCares s d d.outputs cares
      → Covers s.plan (working_set d.inputs (flat_map (task_list d) list)) → MayWork (jobs_of d cares list) s
  may_work few vars are planned = record {
    few = few;
    vars = vars;
    uses = uses_from_cares are;
    planned = λ x less. covers_part d.inputs s.plan (flat_map (task_list d) list) (task_list d (get_or list x no_task)) planned
        (part_at (task_list d) list x no_task less);
  }

module _ (d : Description) (t : State) where
  held_all : (ts : List Task) → ((x : ℕ) → x < length ts → Covers t.held (working_set d.inputs (task_list d (get_or ts x no_task))))
      → Covers t.held (working_set d.inputs (flat_map (task_list d) ts))
  held_all [] each = covers_nil d.inputs t.held
  held_all (x ∷ ts) each = covers_append d.inputs t.held (task_list d x) (flat_map (task_list d) ts) (each 0 (omega arith))
      (held_all ts (λ k less. each (suc k) (omega arith)))

  pub solved_done : (s : State) (cares : List ValuedPoints) (list : List Task) (handles : List Handle)
      → AreSolved (jobs_of d cares list) s t handles → AreDone t d list handles
  solved_done s cares list handles are =
      let none : Handle = record { 0 = 0 } in
      record {
        each = (
          All-from_get_or (Knows t) handles none (λ i less. Denotes-knows t (get_or handles i none) (task_family d (get_or list i no_task))
              (are.each i none (omega (arith, are.count)))),
          same_lists (map (family t) handles) (map (task_family d) list)
              (length-map handles (family t) ∙ (are.count ∙ sym (length-map list (task_family d))))
              (λ k e within. let less : k < length list = omega (arith, length-map handles (family t), are.count) in
              get_or-map (family t) handles k none e (omega (arith, are.count))
              ∙ (Denotes-family t (get_or handles k none) (task_family d (get_or list k no_task)) (are.each k none less)
              ∙ sym (get_or-map (task_family d) list k no_task e less))),
        );
        held = held_all list are.held;
      }

-- ---- what is found from a set of points that was found first; s is the state at the call, and t the one after the set

pub more_lead : {s t : State} {p : Handle} {P : Family} {lead : ℕ} → Builds s t (Ok p) P → IsLead s.vars P lead
    → IsLead t.vars (family t p) lead
more_lead {t = t} {p = p} {P = P} one is = rw (one.grows.vars, Denotes-family t p P one.ok) is

module _ {s t : State} {p : Handle} {P : Family} (more : ℕ → Family → List Family) (one : Builds s t (Ok p) P) where
  pub more_planned : Covers s.plan (working_set s.vars (P ∷ more s.vars P)) → Covers t.plan (working_set t.vars (more t.vars (family t p)))
  more_planned planned =
      rw (one.grows.vars, Denotes-family t p P one.ok, one.grows.plan) (covers_tail s.vars s.plan (more s.vars P) P planned)

  pub more_given : (found : ℕ → Family → Family) {u : State} {r : Result Handle Full}
      → Gives t u r (found t.vars (family t p)) (working_set t.vars (more t.vars (family t p)))
      → Gives s u r (found s.vars P) (working_set s.vars (P ∷ more s.vars P))
  more_given found {u = u} {r = r} two =
      let is = Denotes-family t p P one.ok in
      found_gives s t u r (found s.vars P) (P ∷ []) (more s.vars P) (found_built P (found_start s) refl one)
      (gives_as (rw (one.grows.vars, is)) (rw (one.grows.vars, is)) two)

-- ---- a task, from the care sets of its output; s is the state at the call

pub care_of_task : (s : State) (d : Description) (cares : List ValuedPoints) (task : Task) → AreCares s d d.outputs cares → IsTask d task
    → IsCare d s (get_or cares (task.output - 1) no_cares) task.output
care_of_task s d cares task are is = grind (arith, zip_output)

module _ (s : State) (d : Description) (task : Task) (p : ValuedPoints) (vars_are : s.vars ≡ d.inputs) (care : IsCare d s p task.output)
  where
    abbrev zeros : Family
    zeros = family s p.zeros

    abbrev ones : Family
    ones = family s p.ones

    zeros_is : zeros ≡ zeros_in d task.output
    zeros_is = Denotes-family s p.zeros (zeros_in d task.output) care.0

    ones_is : ones ≡ ones_in d task.output
    ones_is = Denotes-family s p.ones (ones_in d task.output) care.1

    pub care_disjoint : IsConsistent d.inputs d.outputs d.rows → IsTask d task → AreDisjoint zeros ones
    care_disjoint ok is = rw (zeros_is, ones_is) (care_points_disjoint d.inputs d.outputs d.kind d.rows task.output ok is.first is.last)

    pub task_part : IsTask d task → IsPart s.vars (union_of s.vars zeros ones) task.part
    task_part is = rw (vars_are, zeros_is, ones_is) is.part

    pub part_planned : Covers s.plan (working_set d.inputs (task_list d task))
        → Covers s.plan (working_set s.vars (part_list s.vars zeros ones task.part))
    part_planned planned = rw (vars_are, zeros_is, ones_is) planned

    pub task_given : {t : State} {r : Result Handle Full}
        → Gives s t r (part_family s.vars zeros ones task.part) (working_set s.vars (part_list s.vars zeros ones task.part))
        → Gives s t r (task_family d task) (working_set d.inputs (task_list d task))
    task_given given = gives_as (rw (vars_are, zeros_is, ones_is)) (rw (vars_are, zeros_is, ones_is)) given
