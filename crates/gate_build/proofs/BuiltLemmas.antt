-- What the loops over inputs, gates and outputs keep.
use Rattle.std.proofs.Common.{◌≡◌, ◌≢◌, ℕ, suc, ◌+◌, ◌-◌, ◌*◌, ◌/◌, ◌%◌, ◌^◌, ◌<◌, ◌≤◌, Bool, true, false, List, [], ◌∷◌, ◌++◌, map, length}
use Rattle.std.proofs.Common.{get_or, take, Result, Ok, Err, IsErr, Some, refl, sym, ◌∙◌, ap, arith, inl, inr, append-nil}
use Rattle.std.specs.Prelude.{slice_set, nat_le, not}
use Rattle.std.specs.List.{All, AllZip, flat_map}
use Rattle.std.proofs.lemmas.Bool.{cases_lt}
use Rattle.std.proofs.lemmas.Grind.{flat_map-append}
use Rattle.std.proofs.lemmas.List.{get_or-map, get_or-set_other, get_or-set_same, length-map, map-append, map_more, take_more}
use Rattle.std.proofs.lemmas.List.{take_more_set}
use Rattle.std.proofs.lemmas.Nat.{one_shl, pow_below}
use Rattle.std.proofs.lemmas.Option.{slice_get-get_or}
use Rattle.std.proofs.lemmas.Slice.Zip.{all_zipped_more}
use Rattle.std.proofs.lemmas.Bool.Decides.{nat_tests}
use Rattle.lattice.specs.Words.{Covers, Family, Has, numbers_below, working_set}
use Rattle.lattice.proofs.Diagrams.{Has_at, covers_family, covers_part, part_at}
use Rattle.lattice.proofs.Polynomials.{length-numbers_below, zip_weaker}
use Rattle.node_store.specs.Stores.{State, Denotes, family, no_handle, IsSound, IsPlanned, Grows, Reads, Gives, Builds}
use Rattle.node_store.specs.declared.store.Handle.{Handle}
use Rattle.node_store.specs.declared.store.Full.{Full}
use Rattle.node_store.proofs.StoreLaws.{Denotes-family, Denotes-knows, Found, Grows-trans, IsFull-later, found_after, found_built}
use Rattle.node_store.proofs.StoreLaws.{found_one}
use Rattle.aig_reader.specs.Circuit.{Circuit}
use Rattle.gate_build.specs.declared.steps.Step.{Step}
use Rattle.gate_build.specs.declared.steps.Step.TheVariants.{Skip, And, Xor, Mux}
use Rattle.gate_build.specs.Polynomials.{at_variable, input_polynomial, polynomial_of, polynomials_of}
use Rattle.gate_build.specs.Steps.{gates_list, literals_of, step_list, step_polynomial, steps_of}
use Rattle.gate_build.specs.Built.{AreBuilt, Finds, GivesStep, KnowsLiteral, PlansStep, handle_of, is_found, is_skip, literal_family}
use Rattle.gate_build.proofs.GateLemmas.{IsOrdered, at_literal-same, map_below, polynomial_of-constant, polynomial_of-even}
use Rattle.gate_build.proofs.GateLemmas.{polynomial_of-input}
use Rattle.gate_build.proofs.StepLemmas.{kept_is, length-steps_of, step_finds}

-- ---- what calls found, as a whole

pub finds_err : {A : Type 0} {s t u : State} {r : Result A Full} {e : Full} {f : Family} {needed more : List Family} → IsErr r → Reads s t
    → Gives t u (Err e) f needed → Finds s u r more
finds_err {r = Ok x} err reads given = cc
finds_err {s = s} {t} {u} {r = Err x} err reads given = record {
  grows = Grows-trans s t u reads.grows given.grows;
  held = tt;
  quiet = tt;
  full = IsFull-later s t u reads.grows given.full;
}

-- ---- inputs

weight_is : (n k : ℕ) → k < n → n ≤ 62 → 1 * 2 ^ (n - (k + 1)) % 2 ^ 64 ≡ 2 ^ (n - (k + 1))
weight_is n k less few = one_shl (n - (k + 1)) 64 (omega arith)

pub input_below : (n k m : ℕ) → k < n → n ≤ 62 → m ≡ n → 1 * 2 ^ (n - (k + 1)) % 2 ^ 64 < 2 ^ m
input_below n k m less few e = rw (weight_is n k less few, e) (pow_below (n - (k + 1)) n (omega arith))

inputs_have : (n k : ℕ) → k < n → Has (map (input_polynomial n) (numbers_below n)) (input_polynomial n k)
inputs_have n k less =
    let long : length (map (input_polynomial n) (numbers_below n)) ≡ n = simp (length-map, length-numbers_below) in
    Has_at (map (input_polynomial n) (numbers_below n)) k (input_polynomial n k)
    (slice_get-get_or (map (input_polynomial n) (numbers_below n)) k [] (omega arith)
    ∙ ap Some (map_below (input_polynomial n) n k [] less))

pub input_planned : (s t : State) (n k : ℕ) → Grows s t → s.vars ≡ n → k < n → n ≤ 62
    → Covers s.plan (working_set n (map (input_polynomial n) (numbers_below n))) → IsPlanned t (1 * 2 ^ (n - (k + 1)) % 2 ^ 64 ∷ [])
input_planned s t n k grows vars less few planned =
    rw (weight_is n k less few, grows.plan, grows.vars, vars) (covers_family n s.plan _ (input_polynomial n k) planned (inputs_have n k
    less))

inputs_next : (n k : ℕ) → map (input_polynomial n) (numbers_below (k + 1)) ≡ map (input_polynomial n) (numbers_below k) ++
    input_polynomial n k ∷ []
unfolding numbers_below
inputs_next n k = let place : k + 1 ≡ suc k = omega arith in
    ap (λ m. map (input_polynomial n) (numbers_below m)) place ∙ map-append (input_polynomial n) (numbers_below k) (k ∷ [])

pub inputs_found : {s t u : State} {h : Handle} (n k : ℕ) → k < n → n ≤ 62 → Found s t (map (input_polynomial n) (numbers_below k))
    → Builds t u (Ok h) (1 * 2 ^ (n - (k + 1)) % 2 ^ 64 ∷ []) → Found s u (map (input_polynomial n) (numbers_below (k + 1)))
inputs_found n k less few found built =
    rw (inputs_next n k) (found_built (input_polynomial n k) found (ap (λ m. m ∷ []) (weight_is n k less few)) built)

pub constant_built : (c : Circuit) (s : State) (handles : List Handle) → IsSound s → 0 < length handles → (v : ℕ) → v ≤ 0
    → Denotes s (handle_of (slice_set handles 0 no_handle) v) (polynomial_of c (2 * v))
constant_built c s handles sound some v le =
    let here : v ≡ 0 = omega arith in
    rw here (rw (get_or-set_same handles 0 no_handle no_handle some, polynomial_of-constant c) sound.empty)

pub input_built : (c : Circuit) {t u : State} (handles : List Handle) (h : Handle) (k : ℕ) → k < c.inputs → c.inputs ≤ 62
    → c.inputs < length handles → ((v : ℕ) → v ≤ k → Denotes t (handle_of handles v) (polynomial_of c (2 * v)))
    → Builds t u (Ok h) (1 * 2 ^ (c.inputs - (k + 1)) % 2 ^ 64 ∷ []) → (v : ℕ) → v ≤ k + 1
    → Denotes u (handle_of (slice_set handles (k + 1) h) v) (polynomial_of c (2 * v))
input_built c {t} {u} handles h k less few room before built v le = elim (cases_lt v (k + 1)) [
  | inl old ↦ let other : v ≢ k + 1 = omega arith in
      rw (get_or-set_other handles (k + 1) v h no_handle other) (built.grows.known _ _ (before v (omega arith)))
  | inr last ↦ let here : v ≡ k + 1 = omega arith in let within : k + 1 < length handles = omega arith in
      rw here (rw (get_or-set_same handles (k + 1) h no_handle within, polynomial_of-input c k less)
      (built.ok ∙ ap (λ m. Some (m ∷ [])) (weight_is c.inputs k less few)))
]

-- ---- literals whose variables are built

module _ (c : Circuit) (t : State) (count : ℕ) (handles : List Handle) (built : AreBuilt t c count handles) where
  denoted : (l : ℕ) → l / 2 < count → is_found c (l / 2) ≡ true → Denotes t (handle_of handles (l / 2)) (polynomial_of c (2 * (l / 2)))
  denoted l less found = built (l / 2) less found

  pub literal_known : count ≤ length handles → (l : ℕ) → (l / 2 < count) × (is_found c (l / 2) ≡ true) → KnowsLiteral t handles l
  literal_known room l is = record {
    within = omega (arith, is.0);
    known = Denotes-knows t (handle_of handles (l / 2)) _ (denoted l
        is.0 is.1);
  }

  pub literal_is : t.vars ≡ c.inputs → (l : ℕ) → (l / 2 < count) × (is_found c (l / 2) ≡ true)
      → literal_family t handles l ≡ polynomial_of c l
  unfolding polynomial_of
  literal_is vars l is = rw vars (at_literal-same c.inputs (λ v. family t (handle_of handles v)) (at_variable (polynomials_of c)) l
      (Denotes-family t (handle_of handles (l / 2)) _ (denoted l is.0 is.1) ∙ polynomial_of-even c (l / 2)))

-- what is built stays so
pub built_later : (c : Circuit) (s t : State) {count : ℕ} (handles : List Handle) → Grows s t → AreBuilt s c count handles
    → AreBuilt t c count handles
built_later c s t handles grows built v less found = grows.known _ _ (built v less found)

-- a step's polynomial and what it needs, by equal polynomials of its literals
pub same_polynomial : (n : ℕ) (f g : ℕ → Family) (step : Step) → All (λ l. f l ≡ g l) (literals_of step)
    → step_polynomial n f step ≡ step_polynomial n g step
same_polynomial n f g Skip all = refl
same_polynomial n f g (And x) all = rw (all 0 0 (omega arith), all 1 0 (omega arith)) refl
same_polynomial n f g (Xor x) all = rw (all 0 0 (omega arith), all 1 0 (omega arith)) refl
same_polynomial n f g (Mux x) all = rw (all 0 0 (omega arith), all 1 0 (omega arith), all 2 0 (omega arith)) refl

pub same_list : (n : ℕ) (f g : ℕ → Family) (step : Step) → All (λ l. f l ≡ g l) (literals_of step) → step_list n f step ≡ step_list n g step
same_list n f g Skip all = refl
same_list n f g (And x) all = rw (all 0 0 (omega arith), all 1 0 (omega arith)) refl
same_list n f g (Xor x) all = rw (all 0 0 (omega arith), all 1 0 (omega arith)) refl
same_list n f g (Mux x) all = rw (all 0 0 (omega arith), all 1 0 (omega arith), all 2 0 (omega arith)) refl

-- ---- gates

not_true : (b : Bool) → not b ≡ true → b ≡ false
not_true true e = cc
not_true false e = refl

module _ (c : Circuit) (is : IsOrdered c) (s t : State) (k : ℕ) (handles : List Handle) (vars : s.vars ≡ c.inputs) (grows : Grows s t)
    (less : k < length c.gates) (built : AreBuilt t c (c.inputs + 1 + k) handles)
    (room : length handles ≡ c.inputs + 1 + length c.gates) where
  abbrev step : Step
  step = get_or (steps_of c) k Skip

  abbrev before : ℕ
  before = c.inputs + 1 + k

  now_vars : t.vars ≡ c.inputs
  now_vars = grows.vars ∙ vars

  agree : All (λ l. literal_family t handles l ≡ polynomial_of c l) (literals_of step)
  agree i d in' = literal_is c t before handles built now_vars _ (step_finds c is k less i d in')

  pub step_known : All (KnowsLiteral t handles) (literals_of step)
  step_known i d in' = literal_known c t before handles built (omega arith) _ (step_finds c is k less i d in')

  list_same : step_list t.vars (literal_family t handles) step ≡ step_list c.inputs (polynomial_of c) step
  list_same = ap (λ n. step_list n (literal_family t handles) step) now_vars
      ∙ same_list c.inputs (literal_family t handles) (polynomial_of c) step agree

  pub step_planned : Covers s.plan (working_set c.inputs (gates_list c)) → PlansStep t handles step
  step_planned planned = rw (list_same, now_vars, grows.plan) (covers_part c.inputs s.plan (gates_list c) _ planned
      (part_at (step_list c.inputs (polynomial_of c)) (steps_of c) k Skip (omega (arith, length-steps_of c))))

  module _ {u : State} {h : Handle} (given : GivesStep t u (Ok h) handles step) where
    pub gates_found : Found s t (flat_map (step_list c.inputs (polynomial_of c)) (take k (steps_of c)))
        → Found s u (flat_map (step_list c.inputs (polynomial_of c)) (take (k + 1) (steps_of c)))
    gates_found found =
        let f = step_list c.inputs (polynomial_of c) in
        let next : flat_map f (take (k + 1) (steps_of c)) ≡ flat_map f (take k (steps_of c)) ++ f step =
        ap (flat_map f) (take_more (steps_of c) k Skip (omega (arith, length-steps_of c)))
        ∙ (flat_map-append f (take k (steps_of c)) (step ∷ []) ∙ ap (λ (fs : List Family). flat_map f (take k (steps_of c)) ++ fs)
        (append-nil (f step))) in
        rw next (found_after s t u _ (f step) found (rw list_same at (found_one t u h _ _ given)))

    pub gate_built : (v : ℕ) → v < c.inputs + 1 + (k + 1) → is_found c v ≡ true
        → Denotes u (handle_of (slice_set handles (c.inputs + 1 + k) h) v) (polynomial_of c (2 * v))
    gate_built v le found = elim (cases_lt v before) [
      | inl old ↦ let other : v ≢ before = omega arith in
          rw (get_or-set_other handles before v h no_handle other) (given.grows.known _ _ (built v old found))
      | inr last ↦
          let here : v ≡ before = omega arith in let within : before < length handles = omega arith in
          let not_skipped : is_skip step ≡ false = is_kept v here found in
          let value_is : step_polynomial t.vars (literal_family t handles) step ≡ polynomial_of c (2 * before) =
          ap (λ n. step_polynomial n (literal_family t handles) step) now_vars
          ∙ (same_polynomial c.inputs (literal_family t handles) (polynomial_of c) step agree ∙ kept_is c is k less not_skipped) in
          rw here (rw (get_or-set_same handles before h no_handle within) (given.ok ∙ ap Some value_is))
    ] where
      is_kept : (v : ℕ) → v ≡ c.inputs + 1 + k → is_found c v ≡ true → is_skip (get_or (steps_of c) k Skip) ≡ false
      is_kept v here found =
          let place : v - (c.inputs + 1) ≡ k = omega arith in
          let past : nat_le v c.inputs ≡ false = grind (arith, nat_tests) in
          let kept = rw (past, place) at found in not_true _ kept

-- ---- outputs

module _ (c : Circuit) (s t : State) (j : ℕ) (handles : List Handle) (vars : s.vars ≡ c.inputs) (grows : Grows s t) (less : j < length
    c.outputs)
    (l : ℕ) (here : l ≡ get_or c.outputs j 0) (same : literal_family t handles l ≡ polynomial_of c l) where
  pub output_planned : Covers s.plan (working_set c.inputs (map (polynomial_of c) c.outputs)) → IsPlanned t (literal_family t handles l)
  output_planned planned = rw (same, grows.plan, grows.vars, vars) (covers_family c.inputs s.plan _ (polynomial_of c l) planned
      (Has_at (map (polynomial_of c) c.outputs) j (polynomial_of c l)
      (slice_get-get_or (map (polynomial_of c) c.outputs) j [] (omega (arith, length-map c.outputs (polynomial_of c)))
      ∙ ap Some (get_or-map (polynomial_of c) c.outputs j 0 [] less ∙ ap (polynomial_of c) (sym here)))))

  module _ {u : State} {h : Handle} (built : Builds t u (Ok h) (literal_family t handles l)) where
    pub outputs_found : Found s t (map (polynomial_of c) (take j c.outputs)) → Found s u (map (polynomial_of c) (take (j + 1) c.outputs))
    outputs_found found = rw (map_more (polynomial_of c) c.outputs j 0 less)
        (found_built (polynomial_of c (get_or c.outputs j 0)) found (same ∙ ap (polynomial_of c) here) built)

    pub outputs_denote : (outputs : List Handle) → length outputs ≡ length c.outputs
        → AllZip (λ literal h. Denotes t h (polynomial_of c literal)) (take j c.outputs) (take j outputs)
        → AllZip (λ literal h. Denotes u h (polynomial_of c literal)) (take (j + 1) c.outputs) (take (j + 1) (slice_set outputs j h))
    outputs_denote outputs long so_far =
        rw (take_more c.outputs j 0 less, take_more_set outputs j h (omega arith))
        (all_zipped_more _ _ _ _ _ (zip_weaker _ _ (λ literal h e. built.grows.known h.0 _ e) (take j c.outputs) (take j outputs) so_far)
        (built.ok ∙ ap Some (same ∙ ap (polynomial_of c) here)))
