-- The members of a family by its halves at its first variable.
use Rattle.std.proofs.Common.{◌≡◌, ℕ, ◌+◌, ◌-◌, ◌^◌, ◌<◌, ◌≤◌, List, [], ◌∷◌, ◌++◌, length, map, reverse, refl, sym, ap, arith}
use Rattle.std.proofs.Common.{length-append}
use Rattle.std.proofs.lemmas.List.{reverse-append, map-append, length-map, length-reverse}
use Rattle.std.proofs.Math.Pow.{pow_mono}
use Rattle.lattice.specs.Words.{Family, has, IsFamily, join, level}
use Rattle.lattice.proofs.Diagrams.{sub-join_high}
use Rattle.lattice.proofs.Polynomials.{has-join_low, has-join_high}
use Rattle.node_store.specs.Stores.{State, family, IsPlanned}
use Rattle.node_store.specs.declared.store.Handle.{Handle}
use Rattle.set_algebra.specs.Halves.{AreHalves}
use Rattle.set_algebra.specs.declared.halves.Halves.{Halves}

-- the high part's families are planned with the whole's
pub planned_high : (s : State) (d : ℕ) (L H F : Family) → F ≡ join d L H → IsFamily d L → IsFamily d H → d < s.vars → IsPlanned s F
    → IsPlanned s H
planned_high s d L H F whole low high less planned f h = planned f (rw whole (sub-join_high d s.vars L H low high less f h))

-- the numbers of a list, each with k more
abbrev pub raised : ℕ → List ℕ → List ℕ
raised k xs = map (λ x. k + x) xs

reverse-raised : (k : ℕ) (xs : List ℕ) → reverse (raised k xs) ≡ raised k (reverse xs)
reverse-raised k [] = refl
reverse-raised k (x ∷ xs) = rw (reverse-append ((k + x) ∷ []) (raised k xs), reverse-append (x ∷ []) xs, reverse-raised k xs, map-append)

raised-raised : (j k : ℕ) (xs : List ℕ) → raised j (raised k xs) ≡ raised (j + k) xs
raised-raised j k [] = refl
raised-raised j k (x ∷ xs) = let here : j + (k + x) ≡ j + k + x = omega arith in rw (here, raised-raised j k xs)

pub raised-zero : (xs : List ℕ) → raised 0 xs ≡ xs
raised-zero [] = refl
raised-zero (x ∷ xs) = let here : 0 + x ≡ x = omega arith in rw (here, raised-zero xs)

pub length-more : (old new : List ℕ) (base : ℕ) (f : Family) → new ≡ old ++ raised base (reverse f) → length new ≡ length old + length f
length-more old new base f e = rw e (simp (length-append, length-map, length-reverse))

module _ {s t : State} {a : Handle} {h : Halves} (are : AreHalves s t a h) where
  -- a number below the weight is in the low half
  pub has_low : (m : ℕ) → m < h.weight → has (family t h.low) m ≡ has (family s a) m
  has_low m less = rw are.whole (sym (has-join_low are.below (family t h.low) (family t h.high) m (omega (arith, less, are.weight))))

  -- another one with the weight taken away in the high half
  pub has_high : (m : ℕ) → h.weight ≤ m → has (family t h.high) (m - h.weight) ≡ has (family s a) m
  has_high m more = grind (arith, has-join_high are.below (family t h.low) (family t h.high) (m - h.weight) are.low_fits)

  -- as many as the halves have together
  pub length_halves : length (family s a) ≡ length (family t h.low) + length (family t h.high)
  unfolding join
  length_halves = rw are.whole (simp (length-append, length-map))

  -- first the members with the variable, then those without it
  pub members_halves : (base : ℕ)
      → raised base (reverse (family s a)) ≡ raised (base + h.weight) (reverse (family t h.high)) ++ raised base (reverse (family t h.low))
  unfolding join
  members_halves base =
      rw (are.whole, are.weight, reverse-append (family t h.low) (raised (2 ^ are.below) (family t h.high)))
      (simp (reverse-raised, map-append, raised-raised))

  -- the bases of the halves' members
  pub base_high : (base : ℕ) → base + 2 ^ level s.vars (family s a) ≤ 2 ^ 63 → base + h.weight + 2 ^ level t.vars (family t h.high) ≤ 2 ^ 63
  base_high base fits =
      let small : 2 ^ level t.vars (family t h.high) ≤ 2 ^ are.below = pow_mono are.high_after in
      omega (arith, are.weight, small, ap (λ i. 2 ^ i) are.first, fits)

  pub base_low : (base : ℕ) → base + 2 ^ level s.vars (family s a) ≤ 2 ^ 63 → base + 2 ^ level t.vars (family t h.low) ≤ 2 ^ 63
  base_low base fits = grind (arith, pow_mono)
