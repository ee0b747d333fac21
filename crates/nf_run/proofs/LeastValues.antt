-- The least polynomial with the values of a given one is the one that is 1 where the given one is.
use Rattle.std.proofs.Common.{◌≡◌, ◌↔◌, ℕ, refl, ◌&&◌, arith}
use Rattle.std.specs.Prelude.{◌==◌}
use Rattle.std.proofs.lemmas.Bool.Decides.{nat_tests}
use Rattle.lattice.specs.Words.{Family, IsFamily, first_only, has, minus_of, Fits, IsLeast, interpolate, ones_of, value}
use Rattle.lattice.proofs.Polynomials.{All-from_has, All-has, IsFamily-combine, IsFamily-ones_of, IsLeast-interpolate, below_bound}
use Rattle.lattice.proofs.Polynomials.{IsLeast-unique, has-combine, has-family_where, value_cases}
use Rattle.nf_run.specs.Reduced.{HasValues, IsReduced, reduced}

module _ (n : ℕ) (given points : Family) (fits : IsFamily n points) where
  abbrev ones : Family
  ones = ones_of n given points

  abbrev zeros : Family
  zeros = minus_of n points ones

  ones_fit : IsFamily n ones
  ones_fit = IsFamily-ones_of n given points

  has_ones : (a : ℕ) → has ones a ≡ (has points a && (value given a == 1))
  unfolding ones_of
  has_ones a = grind (arith, nat_tests, has-family_where n (λ a. has points a && (value given a == 1)) a, below_bound n points a fits)

  has_zeros : (a : ℕ) → has zeros a ≡ first_only (has points a) (has ones a)
  has_zeros a = has-combine first_only n points ones a refl fits ones_fit

  least : IsLeast n zeros ones (interpolate n zeros ones)
  least = IsLeast-interpolate n zeros ones (IsFamily-combine first_only n points ones).below ones_fit.below
      (λ a i j. grind (arith, has_zeros a))

  -- a polynomial fits where it has the values
  has_values : (p : Family) → HasValues points given p ↔ Fits zeros ones p
  has_values p = (
    λ h.
        let same = λ (a : ℕ). All-has (λ a. value p a ≡ value given a) points a h in
        record {
          zero_at = All-from_has (λ a. value p a ≡ 0) zeros (λ a i.
              grind (arith, nat_tests, has_zeros a, has_ones a, value_cases given a, same a));
          one_at = All-from_has (λ a. value p a ≡ 1) ones (λ a i. grind (arith, nat_tests, has_ones a, same a));
        },
    λ h.
        let zero' = λ (a : ℕ). All-has (λ a. value p a ≡ 0) zeros a h.zero_at in
        let one' = λ (a : ℕ). All-has (λ a. value p a ≡ 1) ones a h.one_at in
        All-from_has (λ a. value p a ≡ value given a) points (λ a i.
        grind (arith, nat_tests, has_zeros a, has_ones a, value_cases given a, zero' a, one' a)),
  )

  as_least : (p : Family) → IsReduced n points given p ↔ IsLeast n zeros ones p
  as_least p = (
    λ h. record { family = h.family; fits = (has_values p).0 h.values; least = λ q qf fits. h.least q qf ((has_values q).1 fits) },
    λ h. record { family = h.family; values = (has_values p).1 h.fits; least = λ q qf same. h.least q qf ((has_values q).0 same) },
  )

  pub reduced_is : IsReduced n points given (reduced n given points)
  unfolding reduced
  reduced_is = (as_least (interpolate n zeros ones)).1 least

  -- there is one such polynomial at most
  pub reduced_once : (p q : Family) → IsReduced n points given p → IsReduced n points given q → p ≡ q
  reduced_once p q x y = IsLeast-unique n zeros ones p q ((as_least p).0 x) ((as_least q).0 y)
