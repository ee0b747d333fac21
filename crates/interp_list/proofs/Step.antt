-- What the lists of one step of the recursion are, in the words of the laws of least polynomials.
use Rattle.std.proofs.Common.{◌≡◌, ℕ, ◌+◌, ◌-◌, ◌^◌, ◌<◌, ◌&&◌, List, map, filter, All}
use Rattle.std.proofs.Common.{ltb, leb, lt-ltb, ltb-true, arith}
use Rattle.std.proofs.lemmas.Bool.{and_parts}
use Rattle.std.proofs.lemmas.Grind.{pow_more}
use Rattle.lattice.specs.Words.{has}
use Rattle.lattice.proofs.Polynomials.{has-filter, has_lowered, All-has, IsCut}

-- the points below a bound, and those from it on, less the bound
pub is_cut : (k bit : ℕ) (points low high : List ℕ) → bit ≡ 2 ^ k → All (λ a. a < 2 ^ (k + 1)) points
    → low ≡ filter (λ a. ltb a bit) points → high ≡ map (λ a. a - bit) (filter (λ a. leb bit a) points) → IsCut k points low high
is_cut k bit points low high e below l h =
    let low_has : (a : ℕ) → has low a ≡ (ltb a (2 ^ k) && has points a) = λ a. rw (l, e) (has-filter (λ b. ltb b (2 ^ k)) points a) in
    let high_has : (a : ℕ) → has high a ≡ has points (2 ^ k + a) = λ a. rw (h, e) (has_lowered (2 ^ k) points a) in
    let most = All-has (λ a. a < 2 ^ (k + 1)) points in
    record {
      low_is = λ a b. rw (low_has a, lt-ltb a (2 ^ k) b);
      low_below = λ a i. ltb-true a (2 ^ k) (and_parts (ltb a (2 ^ k)) (has points a) (rw low_has at i)).0;
      high_is = λ a b. high_has a;
      high_below = λ a i. let less : 2 ^ k + a < 2 ^ (k + 1) = most (2 ^ k + a) below (rw high_has at i) in omega (arith, pow_more 2 k);
    }
