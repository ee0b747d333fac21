-- What the two phases of a run need, what their tasks are, and what stays of them in later states.
use Rattle.std.specs.List.{All, flat_map}
use Rattle.std.proofs.Common.{◌≡◌, ◌≢◌, ℕ, suc, ◌+◌, ◌^◌, ◌<◌, Bool, true, false, cond, ◌||◌, List, [], ◌∷◌, ◌++◌, Ok, get_or, length}
use Rattle.std.proofs.Common.{append_assoc, arith, map, reverse, refl, subst, sym, ap, ◌∙◌, ⊎_elim, inl, inr}
use Rattle.std.proofs.lemmas.Bool.{cases_Bool}
use Rattle.std.proofs.lemmas.List.{flat_map_more, get_or-map, reverse-append}
use Rattle.std.proofs.lemmas.List.Concat.{flat_map-append}
use Rattle.std.proofs.lemmas.List.Elements.{All-append, All-map, All-nil}
use Rattle.std.proofs.lemmas.List.Folds.{flat_map-map, list_any-append}
use Rattle.lattice.specs.Words.{Family, Covers, Has, IsFamily, includes, IsLead, leads_of, standard_of, basis_element_list, care_list}
use Rattle.lattice.specs.Words.{first_phase, is_basis, output_basis_list, output_list, output_numbers, second_phase, working_set}
use Rattle.lattice.specs.declared.kind.Mode.{Mode}
use Rattle.lattice.proofs.Diagrams.{Has-append_cases, Has-append_left, Has-append_right, Has-head, Has-tail, covers_append, covers_left}
use Rattle.lattice.proofs.Diagrams.{covers_more, covers_nothing, covers_part, covers_right}
use Rattle.std.proofs.lemmas.Slice.Zip.{all_zipped_more}
use Rattle.lattice.proofs.Polynomials.{All-from_has, leads_are_minimal, zip_weaker}
use Rattle.node_store.specs.Stores.{Denotes, State, Grows}
use Rattle.pla_reader.specs.Reading.{Description}
use Rattle.cube_build.specs.GivenCareSets.{GivesCareSets}
use Rattle.cube_build.proofs.CareNeeds.{all_cares_have}
use Rattle.set_algebra.specs.declared.points.ValuedPoints.{ValuedPoints}
use Rattle.interp_run.specs.Phases.{AreCares, AreDone, AreLeads, CaresDone, IsFirst, IsTask, element_list, element_task, first_tasks}
use Rattle.interp_run.specs.Phases.{leads_in, ones_in, points_in, second_tasks, task, task_family, task_list, zeros_in}
use Rattle.interp_run.specs.declared.phases.First.{First}
use Rattle.interp_run.specs.declared.tasks.Task.{Task}
use Rattle.interp_run.specs.declared.tasks.Part.{Part}
use Rattle.interp_run.specs.declared.tasks.Part.TheVariants.{Element, Leads, Polynomial}
use Rattle.interp_run.proofs.OutputLists.{all_outputs, output_at, output_numbers_more}
use Rattle.interp_run.proofs.Written.{handles_later}

-- ---- lists of lists

all_of_end : {X A : Type 0} (list : X → List A) (xs : List X) (x : X) → flat_map list (xs ++ x ∷ []) ≡ flat_map list xs ++ list x
all_of_end list xs x = sym (flat_map_more list [] xs x)

all_of_all : {X Y : Type 0} (list : Y → List Family) (f : X → List Y) (xs : List X)
    → flat_map list (flat_map f xs) ≡ flat_map (λ x. flat_map list (f x)) xs
all_of_all list f [] = refl
all_of_all list f (x ∷ xs) = flat_map-append list (f x) (flat_map f xs) ∙ ap (λ rest. flat_map list (f x) ++ rest) (all_of_all list f xs)

-- lists that cover others one by one cover all of them
each_covers : {X : Type 0} (more list : X → List Family) → ((x : X) → Covers (more x) (list x)) → (xs : List X)
    → Covers (flat_map more xs) (flat_map list xs)
each_covers more list each [] f h = h
each_covers more list each (x ∷ xs) f h = ⊎_elim (λ i. Has-append_left (more x) (flat_map more xs) f (each x f i))
    (λ i. Has-append_right (more x) (flat_map more xs) f (each_covers more list each xs f i))
    (Has-append_cases (list x) (flat_map list xs) f h)

-- two lists for each element, one beside the other
apart : {X : Type 0} (a b : X → List Family) (xs : List X) (f : Family)
    → includes (flat_map (λ x. a x ++ b x) xs) f ≡ (includes (flat_map a xs) f || includes (flat_map b xs) f)
unfolding includes
apart a b [] f = refl
apart a b (x ∷ xs) f = simp (list_any-append, apart a b xs f) (grind arith)

-- where each has none, all have none
none_each : {X : Type 0} (xs : List X) → flat_map {A = Family} (λ _. []) xs ≡ []
none_each [] = refl
none_each (x ∷ xs) = none_each xs

-- a family of the list before each list
headed : (fs : List Family) (p : Family) (list : ℕ → List Family) → Has fs p → (ms : List ℕ)
    → Covers (fs ++ flat_map list ms) (flat_map (λ m. p ∷ list m) ms)
unfolding includes
headed fs p list has ms f h = grind (arith, list_any-append, apart (λ _. p ∷ []) list ms f, only ms f)
  where
    only : (ks : List ℕ) → Covers fs (flat_map (λ _. p ∷ []) ks)
    only [] = covers_nothing fs
    only (k ∷ ks) = covers_more fs (flat_map (λ _. p ∷ []) ks) p has (only ks)

-- a list that has the families of two lists and no others: what it needs is what they need
pub record Parted (n : ℕ) (whole a b : List Family) : Type 0 where
  pub planned : (fs : List Family) → Covers fs (working_set n whole) → Covers fs (working_set n a) × Covers fs (working_set n b)
  pub held : (fs : List Family) → Covers fs (working_set n a) → Covers fs (working_set n b) → Covers fs (working_set n whole)

parted : (n : ℕ) (whole a b : List Family) → ((f : Family) → includes whole f ≡ includes (a ++ b) f) → Parted n whole a b
parted n whole a b same = record {
  planned = λ fs all. let parts = covers_part n fs whole (a ++ b) all (λ f h. same f ∙ h) in
      (covers_left n fs a b parts, covers_right n fs a b parts);
  held = λ fs one two. covers_part n fs (a ++ b) whole (covers_append n fs a b one two) (λ f h. sym (same f) ∙ h);
}

abbrev pub cares_list : Description → ℕ → List Family
cares_list d count = flat_map (care_list d.inputs d.kind d.rows) (output_numbers count)

module _ (d : Description) (mode : Mode) where
  abbrev numbers : List ℕ
  numbers = output_numbers d.outputs

  -- ---- phase 1

  abbrev leads : ℕ → List Family
  leads o = cond (is_basis mode) (task_list d (task Leads o)) []

  abbrev first_list : List Family
  first_list = flat_map (task_list d) (first_tasks d mode)

  abbrev first : List Family
  first = first_phase d.inputs d.outputs d.kind d.rows mode

  leads_are : (b : Bool) → flat_map (task_list d) (cond b (map (task Leads) numbers) [])
      ≡ flat_map (λ o. cond b (task_list d (task Leads o)) []) numbers
  leads_are true = flat_map-map (task_list d) (task Leads) numbers
  leads_are false = sym (none_each numbers)

  -- it needs what the care sets and its tasks need, and no more
  first_parts : (f : Family) → includes first f ≡ includes (cares_list d d.outputs ++ first_list) f
  unfolding first_phase output_list includes
  first_parts f = simp (apart, list_any-append, flat_map-append, flat_map-map, leads_are) (grind arith)

  pub first_parted : Parted d.inputs first (cares_list d d.outputs) first_list
  first_parted = parted _ _ _ _ first_parts

  -- ---- phase 2

  abbrev element : ℕ → ℕ → List Family
  element o m = basis_element_list d.inputs m (points_in d o)

  abbrev leads_at : ℕ → Family
  leads_at o = leads_of d.inputs (standard_of d.inputs (points_in d o))

  abbrev basis : ℕ → List Family
  basis o = flat_map (element o) (leads_in d mode o)

  abbrev elements : ℕ → List Family
  elements o = flat_map (λ m. element_list d.inputs m (points_in d o)) (leads_in d mode o)

  abbrev second_list : List Family
  second_list = flat_map (task_list d) (second_tasks d mode)

  abbrev second : List Family
  second = second_phase d.inputs d.outputs d.kind d.rows mode

  second_is : second ≡ first ++ flat_map basis numbers
  unfolding second_phase output_basis_list
  second_is = ap (λ (rest : List Family). first ++ rest) (bases (is_basis mode))
    where
      bases : (b : Bool) → cond b (flat_map (output_basis_list d.inputs d.kind d.rows) numbers) []
          ≡ flat_map (λ o. flat_map (element o) (cond b (leads_at o) [])) numbers
      bases true = refl
      bases false = sym (none_each numbers)

  second_list_is : second_list ≡ flat_map elements numbers
  second_list_is = all_of_all (task_list d) (λ o. map (element_task o) (leads_in d mode o)) numbers ∙ simp flat_map-map

  leads_within : (f : Family) → Has (flat_map leads numbers) f → Has first f
  unfolding includes
  leads_within f h = first_parts f ∙ simp (list_any-append, flat_map-append, leads_are) (grind arith)

  -- the points of an output stand among the families that its leads need
  elements_within : (b : Bool) (o : ℕ) → Covers (cond b (task_list d (task Leads o)) [] ++ flat_map (element o) (cond b (leads_at o) []))
      (flat_map (λ m. element_list d.inputs m (points_in d o)) (cond b (leads_at o) []))
  elements_within true o = headed (task_list d (task Leads o)) (points_in d o) (element o) (Has-head (points_in d o) _) (leads_at o)
  elements_within false o = covers_nothing _

  -- phase 2 needs what phase 1 and its tasks need, and no more
  second_parts : (f : Family) → includes second f ≡ includes (first ++ second_list) f
  unfolding includes
  second_parts f = simp (second_is, second_list_is, list_any-append) (both _ _ _ forth back)
    where
      both : (a b c : Bool) → (c ≡ true → (a || b) ≡ true) → (b ≡ true → c ≡ true) → (a || b) ≡ (a || c)
      both a b c forth back = grind arith

      forth : Has (flat_map elements numbers) f → (includes first f || includes (flat_map basis numbers) f) ≡ true
      forth h =
          grind (arith, each_covers _ elements (elements_within (is_basis mode)) numbers f h, apart leads basis numbers f, leads_within f)

      back : Has (flat_map basis numbers) f → Has (flat_map elements numbers) f
      back = each_covers elements basis (λ o. each_covers (λ m. element_list d.inputs m (points_in d o)) (element o)
          (λ m. Has-tail (points_in d o) (element o m)) (leads_in d mode o)) numbers f

  pub second_parted : Parted d.inputs second first second_list
  second_parted = parted _ _ _ _ second_parts

-- ---- the care sets of one output after the other

module _ (d : Description) where
  pub care_planned : (fs : List Family) (before : ℕ) → before < d.outputs → Covers fs (working_set d.inputs (cares_list d d.outputs))
      → Covers fs (working_set d.inputs (care_list d.inputs d.kind d.rows (before + 1)))
  care_planned fs before less planned f h =
      planned f (all_cares_have d.inputs d.outputs d.kind d.rows (before + 1) (omega arith) (omega arith) f h)

  -- the care sets of an output
  abbrev pub IsCare : State → ValuedPoints → ℕ → Type 0
  IsCare s p output = Denotes s p.zeros (zeros_in d output) × Denotes s p.ones (ones_in d output)

  cares_later : (s t : State) (count : ℕ) (cares : List ValuedPoints) → Grows s t → AreCares s d count cares → AreCares t d count cares
  cares_later s t count cares grows = zip_weaker (IsCare s) (IsCare t)
      (λ p o is. (grows.known p.zeros.0 (zeros_in d o) is.0, grows.known p.ones.0 (ones_in d o) is.1)) cares (output_numbers count)

  pub cares_more : (s t : State) (count : ℕ) (cares more : List ValuedPoints) (p : ValuedPoints) → CaresDone s d count cares
      → GivesCareSets s t (Ok p) d.inputs d.kind d.rows (count + 1) → more ≡ cares ++ p ∷ [] → CaresDone t d (count + 1) more
  cares_more s t count cares more p before gives items = record {
    each = rw (items, output_numbers_more count)
        (all_zipped_more (IsCare t) cares (output_numbers count) p (count + 1) (cares_later s t count cares gives.grows before.each)
        (gives.zeros, gives.ones));
    held = rw (output_numbers_more count, all_of_end (care_list d.inputs d.kind d.rows) (output_numbers count) (count + 1))
        (covers_append d.inputs t.held (cares_list d count) (care_list d.inputs d.kind d.rows (count + 1))
        (λ f i. gives.grows.held f (before.held f i)) gives.held);
  }

-- ---- what phase 1 leaves

module _ (d : Description) (mode : Mode) where
  -- without a lead a part is one of each output
  all_are_tasks : (part : Part) → ((lead : ℕ) → part ≢ Element lead) → All (IsTask d) (map (task part) (output_numbers d.outputs))
  all_are_tasks part bare = All-map (IsTask d) (task part) (output_numbers d.outputs) (all_outputs (λ o. IsTask d (task part o)) d.outputs
      (λ o first last. record { first = first; last = last; part = λ lead is. absurd (bare lead is) }))

  pub are_tasks : All (IsTask d) (first_tasks d mode)
  are_tasks = All-append (IsTask d) (map (task Polynomial) (output_numbers d.outputs)) _ (all_are_tasks Polynomial (λ lead e. cc))
      (elim (cases_Bool (is_basis mode)) [
        | inl basis ↦ rw basis (all_are_tasks Leads (λ lead e. cc))
        | inr bare ↦ rw bare (All-nil (IsTask d))
      ])

  -- t is the state after the care sets, u the one after the tasks
  pub first_done : (t u : State) (first : First) → CaresDone t d d.outputs first.cares.items → Grows t u
      → AreDone u d (first_tasks d mode) first.found.items → IsFirst u d mode first
  first_done t u first cares grows done = record {
    cares = cares_later d t u d.outputs first.cares.items grows cares.each;
    found = done.each;
    held = (first_parted d mode).held u.held (λ f i. grows.held f (cares.held f i)) done.held;
  }

  pub first_later : (s t : State) (first : First) → Grows s t → IsFirst s d mode first → IsFirst t d mode first
  first_later s t first grows is = record {
    cares = cares_later d s t d.outputs first.cares.items grows is.cares;
    found = handles_later s t first.found.items (map (task_family d) (first_tasks d mode)) grows is.found;
    held = λ f i. grows.held f (is.held f i);
  }

-- ---- the tasks of phase 2

All-flat_map : {X Y : Type 0} (P : Y → Type 0) (f : X → List Y) (xs : List X) → All (λ x. All P (f x)) xs → All P (flat_map f xs)
All-flat_map P f [] each = All-nil P
All-flat_map P f (x ∷ xs) each = All-append P (f x) (flat_map f xs) (each 0 x (omega arith))
    (All-flat_map P f xs (λ k d less. each (suc k) d (omega arith)))

module _ (d : Description) (mode : Mode) where
  abbrev tasks_of : ℕ → List Task
  tasks_of o = map (element_task o) (leads_in d mode o)

  -- one output after the other
  pub second_more : (lists : List Family) (before : ℕ) (l : Family) (tasks more : List Task) → l ≡ get_or lists before l
      → before < d.outputs → length lists ≡ d.outputs → AreLeads d mode lists → tasks ≡ flat_map tasks_of (output_numbers before)
      → more ≡ tasks ++ map (element_task (before + 1)) (reverse l) → more ≡ flat_map tasks_of (output_numbers (before + 1))
  second_more lists before l tasks more at less long are so_far pushed =
      let leads : reverse l ≡ leads_in d mode (before + 1) = ap reverse at ∙ (sym (get_or-map reverse lists before l [] (omega arith))
      ∙ (ap (λ xs. get_or xs before []) are ∙ output_at (leads_in d mode) d.outputs before [] less)) in
      rw (pushed, leads, so_far, output_numbers_more before) (sym (all_of_end tasks_of (output_numbers before) (before + 1)))

  pub are_second_tasks : ((o : ℕ) → IsFamily d.inputs (points_in d o)) → All (IsTask d) (second_tasks d mode)
  are_second_tasks points_family = All-flat_map (IsTask d) tasks_of (output_numbers d.outputs)
      (all_outputs (λ o. All (IsTask d) (tasks_of o)) d.outputs (λ o first last. All-map (IsTask d) (element_task o) (leads_in d mode o)
      (elim (cases_Bool (is_basis mode)) [
        | inl basis ↦ rw basis (All-from_has (λ m. IsTask d (element_task o m)) (leads_at d mode o) (λ m i.
            let is = (leads_are_minimal d.inputs (points_in d o) (points_family o) m).0 i in record {
              first = first;
              last = last;
              part = λ lead same. let at : m ≡ lead = cc in subst (λ m. (m < 2 ^ d.inputs) × IsLead d.inputs (points_in d o) m) at is;
            }))
        | inr bare ↦ rw bare (All-nil (λ m. IsTask d (element_task o m)))
      ])))

-- the tasks of one output, one lead after the other
pub with_more : (o : ℕ) (tasks more whole : List Task) (rest left : List ℕ) (m : ℕ) → rest ≡ left ++ m ∷ []
    → more ≡ tasks ++ element_task o m ∷ [] → tasks ++ map (element_task o) (reverse rest) ≡ whole
    → more ++ map (element_task o) (reverse left) ≡ whole
with_more o tasks more whole rest left m cut pushed so_far = rw (pushed) (simp append_assoc (simp (cut, reverse-append) at so_far))
