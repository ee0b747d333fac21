-- The polynomials of variables and of literals, and their values.
use Rattle.std.proofs.Common.{◌≡◌, ℕ, zero, suc, ◌+◌, ◌-◌, ◌*◌, ◌/◌, ◌%◌, ◌^◌, ◌<◌, ◌≤◌, Bool, true, false, not, ◌&&◌, cond, List, [], ◌∷◌}
use Rattle.std.proofs.Common.{◌++◌, map, length, get_or, length-append, refl, sym, ◌∙◌, ap, ap₂, arith, Some, inl, inr}
use Rattle.std.specs.Prelude.{slice_get}
use Rattle.std.proofs.lemmas.Bool.{cases_lt}
use Rattle.std.proofs.lemmas.List.{get_or_append_left, length-map, map-append}
use Rattle.std.proofs.Math.Seq.{get_or-append_seam}
use Rattle.std.proofs.lemmas.Nat.{pow_below}
use Rattle.lattice.specs.Words.{Family, IsFamily, numbers_below, product_of, sum_of, value, variable, exactly_one}
use Rattle.lattice.proofs.Diagrams.{IsFamily-nil, IsFamily-unit, IsFamily-single}
use Rattle.lattice.proofs.Polynomials.{IsFamily-combine, length-numbers_below, product_by_values, value-nil, value-one, value-single}
use Rattle.lattice.proofs.Polynomials.{value-sum}
use Rattle.bool_poly.proofs.OnesLemmas.{IsFamily-product_of}
use Rattle.aig_reader.specs.declared.circuit.Gate.{Gate}
use Rattle.aig_reader.specs.Circuit.{Circuit, HasValue, constant, input, gate, complement, IsCircuit}
use Rattle.gate_build.specs.Polynomials.{at_variable, at_literal, input_polynomial, input_polynomials, with_gates, polynomials_of}
use Rattle.gate_build.specs.Polynomials.{polynomial_of}

-- ---- literals

pub at_literal-even : (n : ℕ) (f : ℕ → Family) (v : ℕ) → at_literal n f (2 * v) ≡ f v
unfolding at_literal
at_literal-even n f v = let even : (2 * v) % 2 ≡ 0 = omega arith in let half : (2 * v) / 2 ≡ v = omega arith in rw (even, half)

pub at_literal-odd : (n : ℕ) (f : ℕ → Family) (v : ℕ) → at_literal n f (2 * v + 1) ≡ sum_of n (f v) (0 ∷ [])
unfolding at_literal
at_literal-odd n f v =
    let odd : (2 * v + 1) % 2 ≡ 1 = omega arith in let half : (2 * v + 1) / 2 ≡ v = omega arith in rw (odd, half)

-- it is given by the polynomial of its variable
pub at_literal-same : (n : ℕ) (f g : ℕ → Family) (literal : ℕ) → f (literal / 2) ≡ g (literal / 2)
    → at_literal n f literal ≡ at_literal n g literal
unfolding at_literal
at_literal-same n f g literal e = rw e

pub IsFamily-at_literal : (n : ℕ) (f : ℕ → Family) (literal : ℕ) → IsFamily n (f (literal / 2)) → IsFamily n (at_literal n f literal)
unfolding at_literal
IsFamily-at_literal n f literal is = grind (arith, IsFamily-combine exactly_one n (f (literal / 2)) (0 ∷ []))

-- ---- variables

pub map_below : {X : Type 0} (f : ℕ → X) (n k : ℕ) (d : X) → k < n → get_or (map f (numbers_below n)) k d ≡ f k
unfolding numbers_below
map_below f zero k d less = absurd (omega arith)
map_below f (suc n) k d less =
    let long : length (map f (numbers_below n)) ≡ n = simp (length-map, length-numbers_below) in
    ap (λ xs. get_or xs k d) (map-append f (numbers_below n) (n ∷ [])) ∙ elim (cases_lt k n) [
      | inl within ↦ get_or_append_left (map f (numbers_below n)) (f n ∷ []) d k (omega arith) ∙ map_below f n k d within
      | inr past ↦ let last : k ≡ n = omega arith in
          rw last (rw long at (get_or-append_seam (map f (numbers_below n)) (f n) [] d))
    ]

pub length-input_polynomials : (n : ℕ) → length (input_polynomials n) ≡ n + 1
length-input_polynomials n = let long : length (map (input_polynomial n) (numbers_below n)) ≡ n = simp (length-map, length-numbers_below) in
    omega arith

pub with_gates-front : (n : ℕ) (ps : List Family) (gates : List Gate) (v : ℕ) → v < length ps
    → at_variable (with_gates n ps gates) v ≡ at_variable ps v
unfolding with_gates
with_gates-front n ps [] v less = refl
with_gates-front n ps (g ∷ gates) v less =
    let of_literal = at_literal n (at_variable ps) in let next = product_of n (of_literal g.left) (of_literal g.right) in
    with_gates-front n (ps ++ next ∷ []) gates v (omega (arith, length-append ps (next ∷ [])))
    ∙ get_or_append_left ps (next ∷ []) [] v less

-- a gate's polynomial, where its operands stand before it
with_gates-gate : (n : ℕ) (ps : List Family) (gates : List Gate) (k : ℕ) (g : Gate) → slice_get gates k ≡ Some g
    → g.left / 2 < length ps + k → g.right / 2 < length ps + k → at_variable (with_gates n ps gates) (length ps + k)
    ≡ product_of n (at_literal n (at_variable (with_gates n ps gates)) g.left) (at_literal n (at_variable (with_gates n ps gates)) g.right)
unfolding with_gates
with_gates-gate n ps [] k g at left right = cc
with_gates-gate n ps (h ∷ gates) zero g at left right =
    let same : h ≡ g = cc in
    let of_literal = at_literal n (at_variable ps) in let next = product_of n (of_literal h.left) (of_literal h.right) in
    let whole = with_gates n (ps ++ next ∷ []) gates in
    let front : (v : ℕ) → v < length ps → at_variable whole v ≡ at_variable ps v = λ v less.
    with_gates-front n (ps ++ next ∷ []) gates v (omega (arith, length-append ps (next ∷ [])))
    ∙ get_or_append_left ps (next ∷ []) [] v less in
    let here : at_variable whole (length ps) ≡ next =
    with_gates-front n (ps ++ next ∷ []) gates (length ps) (omega (arith, length-append ps (next ∷ [])))
    ∙ get_or-append_seam ps next [] [] in
    let l = at_literal-same n (at_variable whole) (at_variable ps) g.left (front (g.left / 2) (omega arith)) in
    let r = at_literal-same n (at_variable whole) (at_variable ps) g.right (front (g.right / 2) (omega arith)) in
    let place : length ps + 0 ≡ length ps = omega arith in rw place (here ∙ cc)
with_gates-gate n ps (h ∷ gates) (suc k) g at left right =
    let of_literal = at_literal n (at_variable ps) in let next = product_of n (of_literal h.left) (of_literal h.right) in
    let place : length (ps ++ next ∷ []) + k ≡ length ps + suc k = omega (arith, length-append ps (next ∷ [])) in
    rw (← place) (with_gates-gate n (ps ++ next ∷ []) gates k g at (rw place left) (rw place right))

-- ---- families

at_push : {X : Type 0} (P : X → Type 0) (xs : List X) (y d : X) → P d → P y → ((v : ℕ) → P (get_or xs v d)) → (v : ℕ)
    → P (get_or (xs ++ y ∷ []) v d)
at_push P [] y d none last all zero = last
at_push P [] y d none last all (suc v) = none
at_push P (x ∷ xs) y d none last all zero = all zero
at_push P (x ∷ xs) y d none last all (suc v) = at_push P xs y d none last (λ w. all (suc w)) v

inputs_fit : (n m : ℕ) → m ≤ n → (v : ℕ) → IsFamily n (get_or (map (input_polynomial n) (numbers_below m)) v [])
unfolding numbers_below
inputs_fit n zero le v = IsFamily-nil n
inputs_fit n (suc m) le v =
    rw (map-append (input_polynomial n) (numbers_below m) (m ∷ []))
    (at_push (IsFamily n) (map (input_polynomial n) (numbers_below m)) (input_polynomial n m) [] (IsFamily-nil n)
    (IsFamily-single n (variable n (m + 1)) (pow_below (n - (m + 1)) n (omega arith))) (inputs_fit n m (omega arith)) v)

input_fits : (n v : ℕ) → IsFamily n (at_variable (input_polynomials n) v)
input_fits n zero = IsFamily-nil n
input_fits n (suc v) = inputs_fit n n (omega arith) v

gates_fit : (n : ℕ) (ps : List Family) (gates : List Gate) → ((v : ℕ) → IsFamily n (at_variable ps v)) → (v : ℕ)
    → IsFamily n (at_variable (with_gates n ps gates) v)
unfolding with_gates
gates_fit n ps [] all v = all v
gates_fit n ps (g ∷ gates) all v =
    let of_literal = at_literal n (at_variable ps) in let next = product_of n (of_literal g.left) (of_literal g.right) in
    gates_fit n (ps ++ next ∷ []) gates
    (at_push (IsFamily n) ps next [] (IsFamily-nil n) (IsFamily-product_of n (of_literal g.left) (of_literal g.right)) all) v

-- ---- values as numbers

times_bits : (x y : Bool) → cond x 1 0 * cond y 1 0 ≡ cond (x && y) 1 0
times_bits true true = refl
times_bits true false = refl
times_bits false true = refl
times_bits false false = refl

other_bit : (x : Bool) → (cond x 1 0 + 1) % 2 ≡ cond (not x) 1 0
other_bit true = refl
other_bit false = refl

abbrev pub bit : Bool → ℕ
bit x = cond x 1 0

pub bit_is : (x y : Bool) → bit x ≡ bit y → x ≡ y
bit_is true true e = refl
bit_is true false e = cc
bit_is false true e = cc
bit_is false false e = refl

-- ---- a circuit

-- each gate stands on what is before it
abbrev pub IsOrdered : Circuit → Type 0
IsOrdered c = IsCircuit c.inputs c.gates c.outputs c.in_names c.out_names

module _ (c : Circuit) where
  -- the polynomials are polynomials in the inputs
  pub IsFamily-polynomial_of : (literal : ℕ) → IsFamily c.inputs (polynomial_of c literal)
  unfolding polynomial_of polynomials_of
  IsFamily-polynomial_of literal = IsFamily-at_literal c.inputs (at_variable (polynomials_of c)) literal
      (gates_fit c.inputs (input_polynomials c.inputs) c.gates (input_fits c.inputs) (literal / 2))

  pub polynomial_of-even : (v : ℕ) → polynomial_of c (2 * v) ≡ at_variable (polynomials_of c) v
  unfolding polynomial_of
  polynomial_of-even v = at_literal-even c.inputs (at_variable (polynomials_of c)) v

  pub polynomial_of-odd : (v : ℕ) → polynomial_of c (2 * v + 1) ≡ sum_of c.inputs (polynomial_of c (2 * v)) (0 ∷ [])
  unfolding polynomial_of
  polynomial_of-odd v = at_literal-odd c.inputs (at_variable (polynomials_of c)) v
      ∙ ap (λ p. sum_of c.inputs p (0 ∷ [])) (sym (at_literal-even c.inputs (at_variable (polynomials_of c)) v))

  pub polynomial_of-constant : polynomial_of c 0 ≡ []
  unfolding polynomials_of
  polynomial_of-constant = polynomial_of-even 0
      ∙ with_gates-front c.inputs (input_polynomials c.inputs) c.gates 0 (omega (arith, length-input_polynomials c.inputs))

  pub polynomial_of-input : (k : ℕ) → k < c.inputs → polynomial_of c (2 * (k + 1)) ≡ input_polynomial c.inputs k
  unfolding polynomials_of
  polynomial_of-input k less = let place : k + 1 ≡ suc k = omega arith in polynomial_of-even (k + 1)
      ∙ (with_gates-front c.inputs (input_polynomials c.inputs) c.gates (k + 1) (omega (arith, length-input_polynomials c.inputs))
      ∙ (ap (at_variable (input_polynomials c.inputs)) place ∙ map_below (input_polynomial c.inputs) c.inputs k [] less))

  module _ (is : IsOrdered c) where
    pub polynomial_of-gate : (k : ℕ) (g : Gate) → slice_get c.gates k ≡ Some g
        → polynomial_of c (2 * (c.inputs + 1 + k)) ≡ product_of c.inputs (polynomial_of c g.left) (polynomial_of c g.right)
    unfolding polynomial_of polynomials_of
    polynomial_of-gate k g at =
        let long = length-input_polynomials c.inputs in
        let place : length (input_polynomials c.inputs) + k ≡ c.inputs + 1 + k = omega arith in
        polynomial_of-even (c.inputs + 1 + k) ∙ rw (← place)
        (with_gates-gate c.inputs (input_polynomials c.inputs) c.gates k g at (omega (arith, is.left k g at)) (omega (
          arith,
          is.right k
              g at,
        )))

    -- a literal's polynomial has the literal's value
    pub value_is : (point : ℕ) → point < 2 ^ c.inputs → {literal : ℕ} {x : Bool} → HasValue c point literal x
        → value (polynomial_of c literal) point ≡ cond x 1 0
    value_is point less constant = rw polynomial_of-constant (value-nil point)
    value_is point less (input v some few) =
        let place : v - 1 + 1 ≡ v = omega arith in let at = polynomial_of-input (v - 1) (omega arith) in
        ap (λ p. value p point) (rw place at at) ∙ value-single (variable c.inputs v) point
    value_is point less (gate k g x y at l r) =
        ap (λ p. value p point) (polynomial_of-gate k g at)
        ∙ (product_by_values c.inputs (polynomial_of c g.left) (polynomial_of c g.right) point less
        ∙ (ap₂ (λ (a b : ℕ). a * b) (value_is point less l) (value_is point less r) ∙ times_bits x y))
    value_is point less (complement v x d) =
        ap (λ p. value p point) (polynomial_of-odd v)
        ∙ (value-sum c.inputs c.inputs (polynomial_of c (2 * v)) (0 ∷ []) point (IsFamily-polynomial_of (2 * v)) (IsFamily-unit
        c.inputs) (omega arith)
        ∙ (ap₂ (λ (a b : ℕ). (a + b) % 2) (value_is point less d) (value-one point) ∙ other_bit x))
