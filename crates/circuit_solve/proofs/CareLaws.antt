-- What answers a circuit by families: the points that are cared for, the least polynomials at them, and the reduced basis.
use Rattle.std.proofs.Common.{◌≡◌, ◌∙◌, ◌↔◌, ◌&&◌, ℕ, suc, ◌<◌, ◌^◌, Bool, true, false, List, [], ◌∷◌, length, map, get_or, Option}
use Rattle.std.proofs.Common.{None, Some, ap₂, refl, subst, sym, arith}
use Rattle.std.specs.Prelude.{◌==◌}
use Rattle.std.specs.List.{All, AllZip, remove}
use Rattle.std.proofs.lemmas.Bool.Decides.{nat_tests}
use Rattle.std.proofs.lemmas.List.{get_or-map, length-map}
use Rattle.lattice.specs.Words.{Family, IsFamily, first_only, has, minus_of, Fits, Ideal, IsLeast, IsReducedBasis, interpolate, ones_of}
use Rattle.lattice.specs.Words.{power, value}
use Rattle.lattice.proofs.Diagrams.{IsFamily-power, has-power}
use Rattle.lattice.proofs.Polynomials.{All-from_has, All-has, IsFamily-combine, IsFamily-ones_of, IsLeast-interpolate, IsLeast-unique}
use Rattle.lattice.proofs.Polynomials.{IsReducedBasis-unique, basis_same, below_bound, has-combine, has-family_where, reduced_basis_exists}
use Rattle.lattice.proofs.Polynomials.{value_cases, zip_from}
use Rattle.aig_reader.specs.Circuit.{Circuit}
use Rattle.aig_reader.proofs.Values.{some_value}
use Rattle.gate_build.specs.Laws.{IsLiteral}
use Rattle.gate_build.specs.Polynomials.{polynomial_of}
use Rattle.gate_build.proofs.GateValues.{IsFamily-polynomial_of, polynomial_has_values}
use Rattle.bool_poly.proofs.OnesLemmas.{same_values}
use Rattle.circuit_solve.specs.Answers.{answers_of, care_points, output_polynomials}
use Rattle.circuit_solve.specs.Care.{AreAnswers, CareIdeal, HasCareValues, IsAnswerTo, IsCared, asked}
use Rattle.circuit_solve.specs.Laws.{IsAsked}
use Rattle.circuit_solve.specs.Reduced.{reduced}
use Rattle.circuit_solve.specs.Solved.{IsSolved, IsWanted, Solved, basis_by, solved_by}
use Rattle.circuit_solve.proofs.Lists.{All-remove, map-remove, map_twice}

-- ---- the least polynomial with the values of a given one at points

module _ (n : ℕ) (points given : Family) (fits : IsFamily n points) where
  abbrev ones : Family
  ones = ones_of n given points

  abbrev zeros : Family
  zeros = minus_of n points ones

  ones_fit : IsFamily n ones
  ones_fit = IsFamily-ones_of n given points

  pub has_ones : (a : ℕ) → has ones a ≡ (has points a && (value given a == 1))
  unfolding ones_of
  has_ones a = grind (arith, nat_tests, has-family_where n (λ a. has points a && (value given a == 1)) a, below_bound n points a fits)

  has_zeros : (a : ℕ) → has zeros a ≡ first_only (has points a) (has ones a)
  has_zeros a = has-combine first_only n points ones a refl fits ones_fit

  least : IsLeast n zeros ones (interpolate n zeros ones)
  least = IsLeast-interpolate n zeros ones (IsFamily-combine first_only n points ones).below ones_fit.below
      (λ a i j. grind (arith, has_zeros a))

  -- a polynomial fits where it has the values
  abbrev SameValues : Family → Type 0
  SameValues p = (a : ℕ) → has points a ≡ true → value p a ≡ value given a

  same_fits : (p : Family) → SameValues p → Fits zeros ones p
  same_fits p same = record {
    zero_at = All-from_has (λ a. value p a ≡ 0) zeros (λ a i.
        grind (arith, nat_tests, has_zeros a, has_ones a, value_cases given a, same a));
    one_at = All-from_has (λ a. value p a ≡ 1) ones (λ a i. grind (arith, nat_tests, has_ones a, same a));
  }

  fits_same : (p : Family) → Fits zeros ones p → SameValues p
  fits_same p h a i =
      let zero' = All-has (λ a. value p a ≡ 0) zeros a h.zero_at in
      let one' = All-has (λ a. value p a ≡ 1) ones a h.one_at in
      grind (arith, nat_tests, has_zeros a, has_ones a, value_cases given a, zero', one')

-- ---- a circuit

module _ (c : Circuit) (care : Option ℕ) (asks : IsAsked c care) where
  output_is : (k : ℕ) → k < length c.outputs → IsLiteral c (get_or c.outputs k 0)
  output_is k less = record { fits = asks.fits; within = asks.fits.literals k 0 less }

-- the polynomial of an output, by its place
named : (c : Circuit) (k : ℕ) → k < length c.outputs → get_or (output_polynomials c) k [] ≡ polynomial_of c (get_or c.outputs k 0)
named c k less = get_or-map (polynomial_of c) c.outputs k 0 [] less

-- the points that are cared for are those of the family
pub points_fit : (c : Circuit) (care : Option ℕ) → IsFamily c.inputs (care_points c care)
points_fit c None = IsFamily-power c.inputs
points_fit c (Some output) = IsFamily-ones_of c.inputs (get_or (output_polynomials c) output []) (power c.inputs)

pub has_cared : (c : Circuit) (care : Option ℕ) → IsAsked c care → (a : ℕ) → (has (care_points c care) a ≡ true)
    ↔ ((a < 2 ^ c.inputs) × IsCared c care a)
has_cared c None asks a =
    (λ i. (below_bound c.inputs (power c.inputs) a (IsFamily-power c.inputs) i, tt), λ at. has-power c.inputs a at.0)
has_cared c (Some output) asks a =
    let less = asks.within output refl in
    let p = get_or (output_polynomials c) output [] in
    let has_values = polynomial_has_values c (get_or c.outputs output 0) (output_is c (Some output) asks output less) a true in
    let test = has_ones c.inputs (power c.inputs) p (IsFamily-power c.inputs) a in (
      λ i.
          let below : a < 2 ^ c.inputs =
          below_bound c.inputs (care_points c (Some output)) a (points_fit c (Some output)) i in
          let one : value p a ≡ 1 = grind (arith, nat_tests, test, i) in
          (below, (has_values below).0 (rw (← named c output less) one)),
      λ at.
          let one : value p a ≡ 1 = rw (named c output less) ((has_values at.0).1 at.1) in
          let all = has-power c.inputs a at.0 in grind (arith, nat_tests, test, one, all),
    )

-- ---- an answer

module _ (c : Circuit) (care : Option ℕ) (asks : IsAsked c care) (literal : ℕ) (is : IsLiteral c literal) where
  abbrev P : Family
  P = polynomial_of c literal

  abbrev C : Family
  C = care_points c care

  care_same : (p : Family) → HasCareValues c care literal p → SameValues c.inputs C P (points_fit c care) p
  care_same p h a i =
      let at = (has_cared c care asks a).0 i in let some = some_value c a literal is.fits is.within in
      h a some.0 at.0 at.1 some.1 ∙ sym ((polynomial_has_values c literal is a some.0 at.0).1 some.1)

  same_care : (p : Family) → SameValues c.inputs C P (points_fit c care) p → HasCareValues c care literal p
  same_care p same point x less cared has_value =
      same point ((has_cared c care asks point).1 (less, cared)) ∙ (polynomial_has_values c literal is point x less).1 has_value

  as_least : (p : Family) → IsAnswerTo c care literal p
      → IsLeast c.inputs (zeros c.inputs C P (points_fit c care)) (ones c.inputs C P (points_fit c care)) p
  as_least p h = let f = points_fit c care in record {
    family = h.family;
    fits = same_fits c.inputs C P f p (care_same p h.values);
    least = λ q fits fit. h.least q fits (same_care q (fits_same c.inputs C P f q fit));
  }

  pub answered_once : (p q : Family) → IsAnswerTo c care literal p → IsAnswerTo c care literal q → p ≡ q
  answered_once p q one two = let f = points_fit c care in
      IsLeast-unique c.inputs (zeros c.inputs C P f) (ones c.inputs C P f) p q (as_least p one) (as_least q two)

  pub reduced_answers : IsAnswerTo c care literal (reduced c.inputs C P)
  unfolding reduced
  reduced_answers = let f = points_fit c care in let is_least = least c.inputs C P f in record {
    family = is_least.family;
    values = same_care _ (fits_same c.inputs C P f _ is_least.fits);
    least = λ q fits h. is_least.least q fits (same_fits c.inputs C P f q (care_same q h));
  }

-- without care the polynomial answers
pub whole_answers : (c : Circuit) → IsAsked c None → (literal : ℕ) → IsLiteral c literal
    → IsAnswerTo c None literal (polynomial_of c literal)
whole_answers c asks literal is = record {
  family = IsFamily-polynomial_of c literal;
  values = λ point x less cared has_value. (polynomial_has_values c literal is point x less).1 has_value;
  least = λ q fits h other. absurd (other (same_values c.inputs q (polynomial_of c literal) fits (IsFamily-polynomial_of c literal)
      (λ a less. care_same c None asks literal is q h a (has-power c.inputs a less))));
}

-- ---- all answers

-- the literals that are answered are those of outputs
pub asked_are : (c : Circuit) (care : Option ℕ) → IsAsked c care → All (IsLiteral c) (asked c care)
asked_are c None asks = λ k d less. record { fits = asks.fits; within = asks.fits.literals k d less }
asked_are c (Some output) asks =
    All-remove (IsLiteral c) c.outputs output (λ k d less. record { fits = asks.fits; within = asks.fits.literals k d less })

pub zip_mapped : {X Y : Type 0} (R : X → Y → Type 0) (f : X → Y) (xs : List X) (d : X) → All (λ x. R x (f x)) xs → AllZip R xs (map f xs)
zip_mapped R f xs d each = zip_from R xs (map f xs) d (f d) (sym (length-map xs f))
    (λ k less. subst (R (get_or xs k d)) (sym (get_or-map f xs k d (f d) less)) (each k d less))

pub answers_exist : (c : Circuit) (care : Option ℕ) → IsAsked c care → AreAnswers c care (answers_of c care)
answers_exist c None asks = zip_mapped (IsAnswerTo c None) (polynomial_of c) c.outputs 0
    (λ k d less. whole_answers c asks (get_or c.outputs k d) (asked_are c None asks k d less))
answers_exist c (Some output) asks =
    let care = Some output in let C = care_points c care in let literals = remove c.outputs output in
    subst (AreAnswers c care) (map_twice (reduced c.inputs C) (polynomial_of c) literals
    ∙ rw (map-remove (polynomial_of c) c.outputs output) refl)
    (zip_mapped (IsAnswerTo c care) (λ l. reduced c.inputs C (polynomial_of c l)) literals 0
    (λ k d less. reduced_answers c care asks (get_or literals k d) (asked_are c care asks k d less)))

zip_same : {X Y : Type 0} (R : X → Y → Type 0) (P : X → Type 0) → ((x : X) → P x → (y z : Y) → R x y → R x z → y ≡ z) → (xs : List X)
    (ys zs : List Y) → All P xs → AllZip R xs ys → AllZip R xs zs → ys ≡ zs
zip_same R P same [] [] [] all a b = refl
zip_same R P same [] [] (z ∷ zs) all a b = absurd b
zip_same R P same [] (y ∷ ys) zs all a b = absurd a
zip_same R P same (x ∷ xs) [] zs all a b = absurd a
zip_same R P same (x ∷ xs) (y ∷ ys) [] all a b = absurd b
zip_same R P same (x ∷ xs) (y ∷ ys) (z ∷ zs) all a b =
    let first : y ≡ z = same x (all 0 x (omega arith)) y z a.0 b.0 in
    let rest : ys ≡ zs = zip_same R P same xs ys zs (λ k d less. all (suc k) d (omega (arith, less))) a.1 b.1 in cc

answers_once : (c : Circuit) (care : Option ℕ) → IsAsked c care → (ps qs : List Family) → AreAnswers c care ps → AreAnswers c care qs
    → ps ≡ qs
answers_once c care asks ps qs =
    zip_same (IsAnswerTo c care) (IsLiteral c) (λ l is p q. answered_once c care asks l is p q) (asked c care) ps qs
    (asked_are c care asks)

-- ---- the basis

same_ideal : (c : Circuit) (care : Option ℕ) → IsAsked c care → (p : Family) → CareIdeal c care p ↔ Ideal c.inputs (care_points c care) p
same_ideal c care asks p = (
  λ h. (h.0, All-from_has (λ a. value p a ≡ 0) (care_points c care) (λ a i. let at = (has_cared c care asks a).0 i in h.1 a at.0 at.1)),
  λ h. (
    h.0,
    λ point less cared. All-has (λ a. value p a ≡ 0) (care_points c care) point h.1
        ((has_cared c care asks point).1 (less, cared)),
  ),
)

basis_is : (c : Circuit) (care : Option ℕ) → IsAsked c care → (basis : List Family)
    → IsWanted c care true basis ↔ IsReducedBasis c.inputs (care_points c care) basis
basis_is c care asks basis =
    basis_same c.inputs (care_points c care) (points_fit c care) (CareIdeal c care) (same_ideal c care asks) basis

basis_exists : (c : Circuit) (care : Option ℕ) (with_basis : Bool) → IsAsked c care
    → IsWanted c care with_basis (basis_by c care with_basis)
basis_exists c care false asks = refl
basis_exists c care true asks =
    (basis_is c care asks _).1 (reduced_basis_exists c.inputs (care_points c care) (points_fit c care))

basis_once : (c : Circuit) (care : Option ℕ) (with_basis : Bool) → IsAsked c care → (a b : List Family) → IsWanted c care with_basis a
    → IsWanted c care with_basis b → a ≡ b
basis_once c care false asks a b one two = one ∙ sym two
basis_once c care true asks a b one two = IsReducedBasis-unique c.inputs (care_points c care) a b ((basis_is c care asks a).0 one)
    ((basis_is c care asks b).0 two)

-- ---- what solves a circuit

-- something solves a circuit
pub solved_exists : (c : Circuit) (care : Option ℕ) (with_basis : Bool) → IsAsked c care
    → IsSolved c care with_basis (solved_by c care with_basis)
solved_exists c care with_basis asks =
    record { answers = answers_exist c care asks; basis = basis_exists c care with_basis asks }

pub same_solved : {s t : Solved} → s.polynomials ≡ t.polynomials → s.basis ≡ t.basis → s ≡ t
same_solved = ap₂ (λ ps bs. record { polynomials = ps; basis = bs })

-- and one thing alone
pub solved_unique : (c : Circuit) (care : Option ℕ) (with_basis : Bool) (s t : Solved) → IsAsked c care → IsSolved c care with_basis s
    → IsSolved c care with_basis t → s ≡ t
solved_unique c care with_basis s t asks one two =
    same_solved (answers_once c care asks s.polynomials t.polynomials one.answers two.answers)
    (basis_once c care with_basis asks s.basis t.basis one.basis two.basis)
