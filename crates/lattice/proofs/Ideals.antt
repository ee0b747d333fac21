-- The laws of ideals of points.
use Rattle.std.proofs.Common.{◌≡◌, ◌≢◌, ℕ, zero, suc, ◌+◌, ◌%◌, ◌^◌, ◌<◌, ◌↔◌, Bool, true, false, List, [], ◌∷◌, refl, ◌∙◌, ⊎_elim, arith}
use Rattle.std.proofs.Common.{not, ◌&&◌, ◌||◌}
use Rattle.std.specs.Prelude.{◌==◌}
use Rattle.std.specs.List.{list_all}
use Rattle.std.proofs.lemmas.Bool.{cases_Bool}
use Rattle.std.proofs.lemmas.Bool.Decides.{nat_tests}
use Rattle.lattice.specs.Words.{Family, IsFamily, divides, exactly_one, has, inter_of, sum_of, union_of, Vanishes, value, IsBasisElement}
use Rattle.lattice.specs.Words.{IsStandard, IsLead, IsReducedBasis, has_divisors, leads_of, standard_of, polynomial_where}
use Rattle.lattice.specs.Words.{Ideal, Intersection, IsElementOf, IsLeadOf, IsReducedBasisOf, Polynomials, Sum}
use Rattle.lattice.proofs.Families.{All-from_has, All-has, IsFamily-combine, below_bound, has-combine, has-family_where_below, has_head}
use Rattle.lattice.proofs.Families.{has_tail, same_below}
use Rattle.lattice.proofs.ListLaws.{zip_weaker}
use Rattle.lattice.proofs.Values.{divides_trans, value-sum, value_cases}
use Rattle.lattice.proofs.Standard.{standard_divisor}
use Rattle.lattice.proofs.Results.{IsBasisElement-basis_element_of, divides_self, has_divisor, leads_are_minimal, polynomial_by_values}
use Rattle.lattice.proofs.Results.{standard_by_recursion}

-- ---- intersections and sums

-- a polynomial vanishes on points where it is 0 at each
vanish_at : (p points : Family) → Vanishes p points → (a : ℕ) → has points a ≡ true → value p a ≡ 0
vanish_at p points h a i = All-has (λ a. value p a ≡ 0) points a h i

vanish_from : (p points : Family) → ((a : ℕ) → has points a ≡ true → value p a ≡ 0) → Vanishes p points
vanish_from p points at = All-from_has (λ a. value p a ≡ 0) points at

module _ (n : ℕ) (points others : Family) (fits : IsFamily n points) (others_fit : IsFamily n others) where
  has_either : (a : ℕ) → has (union_of n points others) a ≡ (has points a || has others a)
  has_either a = has-combine (λ b c. b || c) n points others a refl fits others_fit

  has_both : (a : ℕ) → has (inter_of n points others) a ≡ (has points a && has others a)
  has_both a = has-combine (λ b c. b && c) n points others a refl fits others_fit

  -- The intersection of the ideals of two families of points is the ideal of their union.
  pub intersection_law : (p : Family) → Intersection (Ideal n points) (Ideal n others) p ↔ Ideal n (union_of n points others) p
  intersection_law p = (
    λ both. (both.0.0, vanish_from p _ λ a i. grind (arith, has_either a, vanish_at p points both.0.1 a, vanish_at p others both.1.1 a)),
    λ all. let zero = vanish_at p _ all.1 in (
      (all.0, vanish_from p points λ a i. zero a (grind (arith, has_either a))),
      (all.0, vanish_from p others λ a i. zero a (grind (arith, has_either a))),
    ),
  )

  -- the sum of two that vanish at a point vanishes there
  sum_zero : (q r : Family) (a : ℕ) → IsFamily n q → IsFamily n r → (value q a + value r a) % 2 ≡ 0 → value (sum_of n q r) a ≡ 0
  sum_zero q r a qf rf even = value-sum n n q r a qf rf (omega arith) ∙ even

  sum_to : (p : Family) → Sum n (Ideal n points) (Ideal n others) p → Ideal n (inter_of n points others) p
  sum_to p s = let q = s.0 in let r = s.1 in (
    rw s.4 (IsFamily-combine exactly_one n q r),
    vanish_from p _ λ a i.
        grind (arith, s.4, has_both a, vanish_at q points s.2.1 a, vanish_at r others s.3.1 a, sum_zero q r a s.2.0 s.3.0),
  )

  -- conversely p is the sum of the polynomial that is 1 where p is 1 at the other points alone, and of what is left
  module _ (p : Family) (pf : IsFamily n p) (vanishes : Vanishes p (inter_of n points others)) where
    abbrev test : ℕ → Bool
    test a = has others a && (not (has points a) && (value p a == 1))

    abbrev first : Family
    first = polynomial_where n test

    abbrev second : Family
    second = sum_of n first p

    first_fits : IsFamily n first
    first_fits = (polynomial_by_values n test).0

    first_at : (a : ℕ) → a < 2 ^ n → (value first a ≡ 1) ↔ (test a ≡ true)
    first_at = (polynomial_by_values n test).1

    first_vanishes : Vanishes first points
    first_vanishes = vanish_from first points λ a i.
        grind (arith, nat_tests, first_at a (below_bound n points a fits i), value_cases first a)

    second_vanishes : Vanishes second others
    second_vanishes = vanish_from second others λ a i. let at = first_at a (below_bound n others a others_fit i) in
        sum_zero first p a first_fits pf (grind (arith, nat_tests, at, value_cases, has_both a, vanish_at p _ vanishes a))

    sum_from : Sum n (Ideal n points) (Ideal n others) p
    sum_from =
        let second_fits = IsFamily-combine exactly_one n first p in
        let whole = same_below n p (sum_of n first second) pf (IsFamily-combine exactly_one n first second)
        (λ x less. let here = has-combine exactly_one n first second x refl first_fits second_fits in
        grind (arith, has-combine exactly_one n first p x refl first_fits pf)) in
        (first, second, (first_fits, first_vanishes), (second_fits, second_vanishes), whole)

  -- The sum of the ideals of two families of points is the ideal of their common points.
  pub sum_law : (p : Family) → Sum n (Ideal n points) (Ideal n others) p ↔ Ideal n (inter_of n points others) p
  sum_law p = (sum_to p, λ all. sum_from p all.0 all.1)

-- ---- leads

module _ (n : ℕ) (points : Family) (fits : IsFamily n points) where
  abbrev monos : Family
  monos = standard_of n points

  -- The leads of the ideal of points are those of the points.
  pub leads_law : (m : ℕ) → IsLeadOf (Ideal n points) m ↔ ((m < 2 ^ n) × IsLead n points m)
  leads_law m = grind (arith, below_bound n, IsBasisElement-basis_element_of n m points fits)

  failing : (test : ℕ → Bool) (xs : List ℕ) → list_all test xs ≡ false → (x : ℕ) × (has xs x ≡ true) × (test x ≡ false)
  failing test [] e = cc
  failing test (x ∷ xs) e = ⊎_elim (λ yes'. let rest = failing test xs (rw yes' at e) in (rest.0, has_tail x xs rest.0 rest.1, rest.2))
      (λ no'. (x, has_head x xs, no')) (cases_Bool (test x))

  undivided : (k : ℕ) → has_divisors monos k ≡ false → (d : ℕ) × (divides d k ≡ true) × (d < k) × (has monos d ≡ false)
  unfolding has_divisors
  undivided k some =
      let d = failing (has monos) _ some in
      (d.0, grind (arith, has_divisor k d.0), grind (arith, nat_tests, has_divisor k d.0), d.2)

  minimal : (k : ℕ) → k < 2 ^ n → has monos k ≡ false → has_divisors monos k ≡ true → has (leads_of n monos) k ≡ true
  unfolding leads_of
  minimal k below other all = grind (arith, has-family_where_below n (λ m. not (has monos m) && has_divisors monos m) k below)

  -- a monomial that is not standard is divided by a lead
  lead_below : (bound k : ℕ) → k < bound → k < 2 ^ n → has monos k ≡ false
      → (l : ℕ) × (divides l k ≡ true) × (has (leads_of n monos) l ≡ true)
  lead_below zero k less below other = absurd (omega arith)
  lead_below (suc bound) k less below other = ⊎_elim (λ all. (k, divides_self k, minimal k below other all))
      (λ some.
      let d = undivided k some in
      let l = lead_below bound d.0 (omega arith) (omega arith) d.3 in (l.0, divides_trans l.0 d.0 k l.1 d.1, l.2))
      (cases_Bool (has_divisors monos k))

  -- ---- reduced bases, of a set that has the members of the ideal

  module _ (J : Polynomials) (same : (p : Family) → J p ↔ Ideal n points p) where
    lead_is : (m : ℕ) → IsLeadOf J m ↔ ((m < 2 ^ n) × IsLead n points m)
    lead_is m = grind (arith, below_bound n, IsBasisElement-basis_element_of n m points fits)

    element_rest : (m : ℕ) (e : Family) → IsElementOf J m e → (k : ℕ) → has e k ≡ true → k ≢ m → k < 2 ^ n → IsStandard n points k
    element_rest m e h k i other below = ⊎_elim (λ standard. (((standard_by_recursion n points fits).1 k).0 standard).1)
        (λ away. let l = lead_below (k + 1) k (omega arith) below away in
        grind (arith, h.reduced k l.0, lead_is l.0, leads_are_minimal n points fits l.0)) (cases_Bool (has monos k))

    element_to : (m : ℕ) (e : Family) → IsElementOf J m e → IsBasisElement n points m e
    element_to m e h = grind (arith, below_bound n e, element_rest m e h)

    element_from : (m : ℕ) (e : Family) → IsBasisElement n points m e → IsElementOf J m e
    element_from m e h = grind (arith, lead_is, standard_divisor n points fits.below, below_bound n e)

    -- The reduced bases of a set of polynomials that has the members of the ideal of points are those of the points.
    pub basis_same : (basis : List Family) → IsReducedBasisOf J basis ↔ IsReducedBasis n points basis
    basis_same basis = (
      λ h. record {
        leads = h.leads;
        ascends = h.ascends;
        all_leads = λ m. grind (arith, lead_is m, h.all_leads m);
        elements = zip_weaker (IsElementOf J) (IsBasisElement n points) element_to h.leads basis h.elements;
      },
      λ h. record {
        leads = h.leads;
        ascends = h.ascends;
        all_leads = λ m. grind (arith, lead_is m, h.all_leads m);
        elements = zip_weaker (IsBasisElement n points) (IsElementOf J) element_from h.leads basis h.elements;
      },
    )

  -- The reduced bases of the ideal of points are those of the points.
  pub basis_law : (basis : List Family) → IsReducedBasisOf (Ideal n points) basis ↔ IsReducedBasis n points basis
  basis_law = basis_same (Ideal n points) (λ p. (λ h. h, λ h. h))
