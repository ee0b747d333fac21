-- The least points at which the outputs of a circuit are 1, by families.
use Rattle.std.proofs.Common.{◌≡◌, ℕ, ◌≤◌, ◌↔◌, true, None, Option, Some, ap, arith, get_or, refl, subst, sym}
use Rattle.std.proofs.lemmas.Bool.Decides.{nat_tests}
use Rattle.lattice.specs.Words.{Family, has, ones_of, value}
use Rattle.lattice.proofs.Polynomials.{All-has, IsFamily-ones_of, has_none}
use Rattle.aig_reader.specs.Circuit.{Circuit}
use Rattle.diagram_measures.specs.Measured.{least_member_of}
use Rattle.diagram_measures.proofs.LeastMembers.{least_member_is_least}
use Rattle.gate_build.specs.Laws.{IsLiteral}
use Rattle.gate_build.specs.Polynomials.{polynomial_of}
use Rattle.gate_build.proofs.GateValues.{polynomial_has_values}
use Rattle.circuit_solve.specs.Answers.{care_points}
use Rattle.circuit_solve.specs.Care.{asked}
use Rattle.circuit_solve.specs.Laws.{IsAsked}
use Rattle.circuit_solve.specs.Ones.{AreLeastOnes, IsLeastOne, IsOneAt, asked_polynomials, least_ones_by}
use Rattle.circuit_solve.proofs.CareLaws.{asked_are, has_cared, has_ones, points_fit, zip_mapped}
use Rattle.circuit_solve.proofs.Lists.{map_twice}

module _ (c : Circuit) (care : Option ℕ) (literal : ℕ) (asks : IsAsked c care) (is : IsLiteral c literal) where
  abbrev P : Family
  P = polynomial_of c literal

  abbrev E : Family
  E = ones_of c.inputs P (care_points c care)

  has_one : (a : ℕ) → (has E a ≡ true) ↔ IsOneAt c care literal a
  has_one a =
      let test = has_ones c.inputs (care_points c care) P (points_fit c care) a in let cared = has_cared c care asks a in
      let values = polynomial_has_values c literal is a true in (
        λ i.
            let there : has (care_points c care) a ≡ true = grind (arith, nat_tests, test, i) in
            let one : value P a ≡ 1 = grind (arith, nat_tests, test, i) in
            let at = cared.0 there in record { below = at.0; cared = at.1; is_one = (values at.0).0 one },
        λ at.
            let there = cared.1 (at.below, at.cared) in let one : value P a ≡ 1 = (values at.below).1 at.is_one in
            grind (arith, nat_tests, test, there, one),
      )

  least_is : (o : Option ℕ) → o ≡ least_member_of E → IsLeastOne c care literal o
  least_is None e = λ point at.
      let none = ((least_member_is_least c.inputs E (IsFamily-ones_of c.inputs P (care_points c care))).0).0 (sym e) in
      has_none point (subst (λ f. has f point ≡ true) none ((has_one point).1 at))
  least_is (Some m) e =
      let h = ((least_member_is_least c.inputs E (IsFamily-ones_of c.inputs P (care_points c care))).1 m).0 (sym e) in
      ((has_one m).0 h.0, λ other at. All-has (λ x. m ≤ x) E other h.1 ((has_one other).1 at))

  pub least_one_is : IsLeastOne c care literal (least_member_of E)
  least_one_is = least_is (least_member_of E) refl

  pub least_one_exists : (found : Option ℕ) × IsLeastOne c care literal found
  least_one_exists = (least_member_of E, least_one_is)

-- and there is no other
pub least_one_unique : (c : Circuit) (care : Option ℕ) (literal : ℕ) (a b : Option ℕ) → IsLeastOne c care literal a
    → IsLeastOne c care literal b → a ≡ b
least_one_unique c care literal None None a b = refl
least_one_unique c care literal None (Some y) a b = absurd (a y b.0)
least_one_unique c care literal (Some x) None a b = absurd (b x a.0)
least_one_unique c care literal (Some x) (Some y) a b = ap Some (omega (arith, a.1 y b.0, b.1 x a.0))

-- of all outputs
pub ones_are_least : (c : Circuit) (care : Option ℕ) → IsAsked c care
    → AreLeastOnes c care (least_ones_by c.inputs (care_points c care) (asked_polynomials c care))
ones_are_least c care asks =
    let points = care_points c care in let literals = asked c care in
    subst (AreLeastOnes c care) (map_twice (λ p. least_member_of (ones_of c.inputs p points)) (polynomial_of c) literals)
    (zip_mapped (IsLeastOne c care) (λ l. least_member_of (ones_of c.inputs (polynomial_of c l) points)) literals 0
    (λ k d less. least_one_is c care (get_or literals k d) asks (asked_are c care asks k d less)))
