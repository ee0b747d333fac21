-- For callers: the polynomial of a literal by its values. The comment above each lemma says what it gives.
use Rattle.std.proofs.Common.{◌≡◌, ℕ, ◌^◌, ◌<◌, Bool, true, false, List, sym, ◌∙◌, subst}
use Rattle.lattice.specs.Words.{Family, IsFamily, Fits, IsLeast, value}
use Rattle.lattice.proofs.Polynomials.{All-from_has, All-has}
use Rattle.bool_poly.proofs.OnesLemmas.{same_values}
use Rattle.aig_reader.specs.Circuit.{Circuit, HasValue}
use Rattle.aig_reader.proofs.Values.{some_value}
use Rattle.gate_build.specs.Polynomials.{polynomial_of}
use Rattle.gate_build.specs.Laws.{IsLiteral, HasValues, IsSplitOf}
use Rattle.gate_build.proofs.GateLemmas.{value_is, bit_is}
-- polynomials of literals are families
pub use Rattle.gate_build.proofs.GateLemmas.{IsFamily-polynomial_of}

module _ (c : Circuit) (literal : ℕ) (is : IsLiteral c literal) where
  -- the polynomial has the literal's values
  pub polynomial_has_values : HasValues c literal (polynomial_of c literal)
  polynomial_has_values point x less = (
    λ e. let some = some_value c point literal is.fits is.within in
        let same : some.0 ≡ x = bit_is some.0 x (sym (value_is c is.fits point less some.1) ∙ e) in
        subst (HasValue c point literal) same some.1,
    λ d. value_is c is.fits point less d,
  )

  -- it is the only one with these values
  pub polynomial_is_only : (p : Family) → IsFamily c.inputs p → HasValues c literal p → p ≡ polynomial_of c literal
  polynomial_is_only p fits has_values = same_values c.inputs p (polynomial_of c literal) fits (IsFamily-polynomial_of c literal)
      (λ point less. let some = some_value c point literal is.fits is.within in
      (has_values point some.0 less).1 some.1 ∙ sym (value_is c is.fits point less some.1))

  -- it is the least one with these values
  pub polynomial_is_least : (zeros ones : List ℕ) → IsSplitOf c literal zeros ones → IsLeast c.inputs zeros ones (polynomial_of c literal)
  polynomial_is_least zeros ones split = record {
    family = IsFamily-polynomial_of c literal;
    fits = record {
      zero_at = All-from_has (λ a. value (polynomial_of c literal) a ≡ 0) zeros (λ a i. let at = (split.zero a).0 i in
          value_is c is.fits a at.0 at.1);
      one_at = All-from_has (λ a. value (polynomial_of c literal) a ≡ 1) ones (λ a i. let at = (split.one a).0 i in
          value_is c is.fits a at.0 at.1);
    };
    least = λ q fits fit other. absurd (other (same_values c.inputs q (polynomial_of c literal) fits (IsFamily-polynomial_of c literal)
        (λ point less. fitted q fit point less (some_value c point literal is.fits is.within))));
  } where
    fitted : (q : Family) → Fits zeros ones q → (point : ℕ) → point < 2 ^ c.inputs → ((x : Bool) × HasValue c point literal x)
        → value q point ≡ value (polynomial_of c literal) point
    fitted q fit point less (true, d) = All-has (λ a. value q a ≡ 1) ones point fit.one_at ((split.one point).1 (less, d))
        ∙ sym (value_is c is.fits point less d)
    fitted q fit point less (false, d) = All-has (λ a. value q a ≡ 0) zeros point fit.zero_at ((split.zero point).1 (less, d))
        ∙ sym (value_is c is.fits point less d)
