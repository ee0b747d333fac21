-- The elements of each output beside its polynomial.
use Rattle.std.specs.List.{All, flat_map, sum_by}
use Rattle.std.proofs.Common.{◌≡◌, ℕ, ◌+◌, ◌<◌, ◌≤◌, List, [], ◌∷◌, ◌++◌, length, map, reverse, take, drop, get_or, refl, sym}
use Rattle.std.proofs.Common.{ap, ap₂, arith, ◌∙◌}
use Rattle.std.proofs.Math.Seq.{drop-append_seam, take-append_seam}
use Rattle.std.proofs.lemmas.List.{drop-map, drop_all, drop_more, length-append, length-drop, length-map, length-reverse, map-append}
use Rattle.std.proofs.lemmas.List.{take-map, take_all}
use Rattle.std.proofs.lemmas.List.Concat.{length-flat_map}
use Rattle.std.proofs.lemmas.List.Elements.{All-cons, All-drop, All-head, All-nil, All-tail, All-take}
use Rattle.std.proofs.lemmas.List.Sums.{sum_by-take-drop}
use Rattle.std.proofs.lemmas.Simd.{map-map}
use Rattle.lattice.specs.Words.{Family, basis_element_of, output_numbers}
use Rattle.lattice.specs.declared.kind.Mode.{Mode}
use Rattle.lattice.specs.declared.kind.Mode.TheVariants.{Basis}
use Rattle.lattice.proofs.Polynomials.{length-numbers_below}
use Rattle.node_store.specs.Stores.{State, Grows, Knows, family}
use Rattle.node_store.specs.declared.store.Handle.{Handle}
use Rattle.pla_reader.specs.Reading.{Description}
use Rattle.anf_printer.specs.Text.{Answer}
use Rattle.set_algebra.proofs.Calls.{terms_of-later}
use Rattle.interp_run.specs.Phases.{AreHandles, AreLeads, AreOf, KnowsOutput, OutputHandles, answer_for, answer_in, by_output, element_task}
use Rattle.interp_run.specs.Phases.{first_tasks, leads_in, points_in, second_tasks, task, task_family, terms_of}
use Rattle.interp_run.specs.declared.tasks.Task.{Task}
use Rattle.interp_run.specs.declared.tasks.Part.TheVariants.{Leads, Polynomial}
use Rattle.interp_run.proofs.SolvedAnswers.{sum_by-map}
use Rattle.interp_run.proofs.Written.{handles_long}

module _ (t : State) (d : Description) (mode : Mode) where
  abbrev polynomial : ℕ → Family
  polynomial o = task_family d (task Polynomial o)

  abbrev elements : ℕ → List Task
  elements o = map (element_task o) (leads_in d mode o)

  abbrev basis : ℕ → List Family
  basis o = map (λ m. basis_element_of d.inputs m (points_in d o)) (leads_in d mode o)

  elements_are : (os : List ℕ) → map (task_family d) (flat_map elements os) ≡ flat_map basis os
  elements_are [] = refl
  elements_are (o ∷ os) = map-append (task_family d) (elements o) (flat_map elements os)
      ∙ ap₂ (λ (xs ys : List Family). xs ++ ys) (map-map (task_family d) (element_task o) (leads_in d mode o)) (elements_are os)

  all_answered : (os : List ℕ) (ps : List Handle) (lists : List Family) (es : List Handle) (rest : List Family)
      → AreHandles t ps (map polynomial os ++ rest) → map reverse lists ≡ map (leads_in d mode) os → AreHandles t es (flat_map basis os)
      → All (KnowsOutput t) (by_output lists ps es) × (map (answer_in t) (by_output lists ps es) ≡ map (answer_for d mode) os)
  unfolding by_output
  all_answered [] ps [] es rest front same all = (All-nil (KnowsOutput t), refl)
  all_answered [] ps (l ∷ lists) es rest front same all = cc
  all_answered (o ∷ os) ps [] es rest front same all = cc
  all_answered (o ∷ os) [] (l ∷ lists) es rest front same all = let none = front.1 in cc
  all_answered (o ∷ os) (p ∷ ps) (l ∷ lists) es rest front same all =
      let n = length l in let first : reverse l ≡ leads_in d mode o = cc in
      let others : map reverse lists ≡ map (leads_in d mode) os = cc in let head : family t p ≡ polynomial o = cc in
      let tail : map (family t) ps ≡ map polynomial os ++ rest = cc in
      let long : n ≡ length (basis o) = simp (length-map, ← first, length-reverse) in
      let taken : map (family t) (take n es) ≡ basis o =
      rw (← take-map (family t) n es, all.1, long) (take-append_seam (basis o) (flat_map basis os)) in
      let dropped : map (family t) (drop n es) ≡ flat_map basis os =
      rw (← drop-map (family t) n es, all.1, long) (drop-append_seam (basis o) (flat_map basis os)) in
      let more = all_answered os ps lists (drop n es) rest (All-tail (Knows t) p ps front.0, tail) others
      (All-drop (Knows t) n es all.0, dropped) in (
        All-cons (KnowsOutput t) (record { polynomial = p; basis = take n es }) (by_output lists ps (drop n es))
            (All-head (Knows t) p ps front.0, All-take (Knows t) n es all.0) more.0,
        ap₂ (λ (a : Answer) (others : List Answer). a ∷ others)
            (ap₂ (λ (f : Family) (b : List Family). record { polynomial = f; basis = b }) head taken) more.1,
      )

  polynomials_first : (os : List ℕ) (rest : List Task)
      → map (task_family d) (map (task Polynomial) os ++ rest) ≡ map polynomial os ++ map (task_family d) rest
  polynomials_first os rest = simp (map-append, map-map)

  pub outputs_answered : (ps : List Handle) (rest : List Task) (lists : List Family) (es : List Handle)
      → AreOf t d ps (map (task Polynomial) (output_numbers d.outputs) ++ rest) → AreLeads d mode lists
      → AreOf t d es (second_tasks d mode)
      → All (KnowsOutput t) (by_output lists ps es)
      × (map (answer_in t) (by_output lists ps es) ≡ map (answer_for d mode) (output_numbers d.outputs))
  outputs_answered ps rest lists es found leads all = let os = output_numbers d.outputs in
      all_answered os ps lists es (map (task_family d) rest) (found.0, found.1 ∙ polynomials_first os rest) leads
      (all.0, all.1 ∙ elements_are os)

  -- ---- how many there are

  pub elements_enough : (es : List Handle) (lists : List Family) → AreOf t d es (second_tasks d mode) → AreLeads d mode lists
      → length es ≡ sum_by length lists
  elements_enough es lists all are = handles_long t es (map (task_family d) (second_tasks d mode)) all
      ∙ (length-map (second_tasks d mode) (task_family d) ∙ counted (output_numbers d.outputs) are)
    where
      counted : (os : List ℕ) → map reverse lists ≡ map (leads_in d mode) os → length (flat_map elements os) ≡ sum_by length lists
      counted os same = simp (length-flat_map, length-map) (sym (simp (sum_by-map, length-reverse) at (ap (sum_by length) same)))

-- a list of leads for each output
pub leads_counted : (d : Description) (mode : Mode) (lists : List Family) → AreLeads d mode lists → length lists ≡ d.outputs
leads_counted d mode lists are = simp (length-map, length-numbers_below) at (ap length are)

-- ---- the leads behind the polynomials

module _ (t : State) (d : Description) (hs : List Handle) where
  -- a polynomial for each output
  pub polynomials_enough : (rest : List Task) → AreOf t d hs (map (task Polynomial) (output_numbers d.outputs) ++ rest)
      → d.outputs ≤ length hs
  polynomials_enough rest all = let long = simp (length-map, length-append, length-numbers_below) at (ap length all.1) in omega arith

  pub leads_listed : (lists : List Family) → AreOf t d hs (first_tasks d Basis) → map reverse lists ≡ map (family t) (drop d.outputs hs)
      → AreLeads d Basis lists
  leads_listed lists all are =
      let numbers = output_numbers d.outputs in
      let long : d.outputs ≡ length (map (polynomial t d Basis) numbers) = simp (length-map, length-numbers_below) in
      are ∙ (sym (drop-map (family t) d.outputs hs) ∙ (ap₂ (λ (k : ℕ) (fs : List Family). drop k fs) long
      (all.1 ∙ polynomials_first t d Basis numbers (map (task Leads) numbers))
      ∙ (drop-append_seam (map (polynomial t d Basis) numbers) _ ∙ map-map (task_family d) (task Leads) numbers)))

-- the terms of what was found: of the first, and of the others in a later state
pub terms_parted : (s t : State) (hs first rest : List Handle) (k : ℕ) → Grows s t → All (Knows s) hs → first ≡ take k hs
    → rest ≡ drop k hs → terms_of s first + terms_of t rest ≡ terms_of s hs
terms_parted s t hs first rest k grows known one two = rw (one, two)
    (omega (arith, sum_by-take-drop (λ h. length (family s h)) hs k, terms_of-later s t (drop k hs) grows (All-drop (Knows s) k hs known)))

-- ---- one output after the other

-- what a list has from a place on
list_from : {X : Type 0} (xs : List X) (i : ℕ) (x : X) (behind : List X) → x ∷ behind ≡ drop i xs
    → (x ≡ get_or xs i x) × (i < length xs) × (behind ≡ drop (i + 1) xs)
list_from xs i x behind is =
    let within : i < length xs = omega (arith, ap length is, length-drop i xs) in
    let both = is ∙ drop_more xs i x within in (cc, within, cc)

module _ (lists : List Family) (ps es rest : List Handle) (i : ℕ)
    (so_far : by_output (drop i lists) (drop i ps) rest ≡ drop i (by_output lists ps es)) where
  -- the output in turn, and those behind it
  pub next_output : (l : Family) (d : Handle) → i < length lists → i < length ps → l ≡ get_or lists i l
      → let o : OutputHandles = record { polynomial = get_or ps i d; basis = take (length l) rest } in
      (o ≡ get_or (by_output lists ps es) i o) × (i < length (by_output lists ps es))
      × (by_output (drop (i + 1) lists) (drop (i + 1) ps) (drop (length l) rest) ≡ drop (i + 1) (by_output lists ps es))
  unfolding by_output
  next_output l d in_lists in_ps at =
      list_from (by_output lists ps es) i (record { polynomial = get_or ps i d; basis = take (length l) rest }) _
      (rw (drop_more lists i l in_lists, drop_more ps i d in_ps, ← at) at so_far)

  -- behind the last there is none
  pub no_more_outputs : length lists ≤ i → take i (by_output lists ps es) ≡ by_output lists ps es
  unfolding by_output
  no_more_outputs past =
      let none : [] ≡ drop i (by_output lists ps es) = rw (drop_all i lists past) at so_far in
      take_all i (by_output lists ps es) (omega (arith, ap length none, length-drop i (by_output lists ps es)))
