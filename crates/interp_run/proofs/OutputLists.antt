-- Lists with an element for each output: what holds of each, and what follows for all.
use Rattle.std.proofs.Common.{◌≡◌, ℕ, zero, suc, ◌+◌, ◌<◌, ◌≤◌, List, [], ◌∷◌, ◌++◌, length, map, get_or, sym, ap, subst, ◌∙◌, arith}
use Rattle.std.specs.List.{All, AllZip, Contains}
use Rattle.std.proofs.lemmas.List.{get_or-append_right, get_or-map, get_or_append_left, length-map, map-append}
use Rattle.lattice.specs.Words.{numbers_below, output_numbers}
use Rattle.std.proofs.lemmas.Slice.Zip.{AllZip-long}
use Rattle.lattice.proofs.Polynomials.{length-numbers_below, zip_at}

-- ---- the numbers of the outputs

pub length-output_numbers : (n : ℕ) → length (output_numbers n) ≡ n
length-output_numbers n = length-map (numbers_below n) (λ j. j + 1) ∙ length-numbers_below n

-- the output at a place is one more than the place
pub number_at : (n k d : ℕ) → k < n → get_or (output_numbers n) k d ≡ k + 1
unfolding numbers_below
number_at n k d less =
    get_or-map (λ j. j + 1) (numbers_below n) k 0 d (omega (arith, length-numbers_below n)) ∙ ap (λ j. j + 1) (below n k less)
  where
    below : (n k : ℕ) → k < n → get_or (numbers_below n) k 0 ≡ k
    below zero k less = absurd (omega arith)
    below (suc n) k less = grind (arith, get_or_append_left, get_or-append_right, length-numbers_below, below n k)

module _ {X : Type 0} (f : ℕ → X) (n : ℕ) where
  -- what stands there for it
  pub output_at : (k : ℕ) (d : X) → k < n → get_or (map f (output_numbers n)) k d ≡ f (k + 1)
  output_at k d less = get_or-map f (output_numbers n) k 0 d (omega (arith, length-output_numbers n)) ∙ ap f (number_at n k 0 less)

  -- what is there for the outputs
  pub uses_from : (x : X) → Contains (map f (output_numbers n)) x → (k : ℕ) × (k < n) × (f (k + 1) ≡ x)
  uses_from x (k, less, is) =
      let inside : k < n = omega (arith, length-map (output_numbers n) f, length-output_numbers n) in
      (k, inside, sym (output_at k x inside) ∙ is)

  pub uses_at : (k : ℕ) → k < n → Contains (map f (output_numbers n)) (f (k + 1))
  uses_at k less = (k, omega (arith, length-map (output_numbers n) f, length-output_numbers n), output_at k (f (k + 1)) less)

-- what holds of each output holds of all
pub all_outputs : (P : ℕ → Type 0) (n : ℕ) → ((o : ℕ) → 1 ≤ o → o ≤ n → P o) → All P (output_numbers n)
all_outputs P n each k d less = let inside : k < n = omega (arith, length-output_numbers n) in
    subst P (sym (number_at n k d inside)) (each (k + 1) (omega arith) (omega arith))

-- one more output
pub output_numbers_more : (n : ℕ) → output_numbers (n + 1) ≡ output_numbers n ++ (n + 1) ∷ []
unfolding numbers_below
output_numbers_more n = let e : n + 1 ≡ suc n = omega arith in ap output_numbers e ∙ map-append (λ j. j + 1) (numbers_below n) (n ∷ [])

pub outputs_more : {X : Type 0} (f : ℕ → X) (n : ℕ) → map f (output_numbers (n + 1)) ≡ map f (output_numbers n) ++ f (n + 1) ∷ []
outputs_more f n = ap (map f) (output_numbers_more n) ∙ map-append f (output_numbers n) ((n + 1) ∷ [])

-- what holds of each pair with an output holds at its place
pub zip_output : {X : Type 0} (R : X → ℕ → Type 0) (xs : List X) (n k : ℕ) (d : X) → AllZip R xs (output_numbers n) → k < n
    → R (get_or xs k d) (k + 1)
zip_output R xs n k d z less =
    let long = AllZip-long R xs (output_numbers n) z in
    subst (R (get_or xs k d)) (number_at n k 0 less) (zip_at R xs (output_numbers n) k d 0 z (omega (arith, long, length-output_numbers n)))
