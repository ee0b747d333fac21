-- Values that are read one behind the other, as a loop does.
use Rattle.std.proofs.Common.{◌≡◌, ℕ, suc, ◌-◌, ◌+◌, ◌≤◌, ◌<◌, List, [], ◌∷◌, ◌++◌, Result, Ok, Err}
use Rattle.std.proofs.Common.{refl, sym, ap, ◌∙◌, append_assoc, arith}
use Rattle.std.proofs.lemmas.List.{append-nil}
use Rattle.aig_reader.specs.declared.refusal.Fault.{Fault}
use Rattle.aig_reader.specs.declared.refusal.Stop.{Stop}
use Rattle.aig_reader.specs.declared.refusal.Stop.TheVariants.{Bad, Memory}
use Rattle.aig_reader.specs.Fields.{◌>>=◌, Fails, many, through}

-- what was read before, and what is still read
abbrev pub with_front : {A : Type 0} → List A → Result (List A × List ℕ) Fault → Result (List A × List ℕ) Fault
with_front front read = read >>= λ x. Ok (front ++ x.0, x.1)

regroup : {A : Type 0} (front : List A) (a : A) (read : Result (List A × List ℕ) Fault)
    → with_front front (read >>= λ x. Ok (a ∷ x.0, x.1)) ≡ with_front (front ++ a ∷ []) read
regroup front a (Ok x) = ap (λ ys. Ok (ys, x.1)) (simp append_assoc)
regroup front a (Err fault) = refl

module _ {A : Type 0} (read : ℕ → List ℕ → Result (A × List ℕ) Fault) (front : List A) (count k : ℕ) (bytes : List ℕ)
    (total : Result (List A × List ℕ) Fault) (so_far : with_front front (many read k (count - k) bytes) ≡ total) where
  pub goes_on : (value : A) (after : List ℕ) → k < count → read k bytes ≡ Ok (value, after)
      → with_front (front ++ value ∷ []) (many read (k + 1) (count - (k + 1)) after) ≡ total
  unfolding many
  goes_on value after lt reads =
      let left : count - k ≡ suc (count - (k + 1)) = omega arith in
      let one : with_front front (many read k (count - k) bytes)
      ≡ with_front (front ++ value ∷ []) (many read (k + 1) (count - (k + 1)) after) =
      rw (left, reads) (regroup front value (many read (k + 1) (count - (k + 1)) after)) in sym one ∙ so_far

  pub stops : (e : Stop) → k < count → Fails e (read k bytes) → Fails e total
  unfolding many
  stops Memory lt fails = tt
  stops (Bad fault) lt fails =
      let left : count - k ≡ suc (count - (k + 1)) = omega arith in
      let one : with_front front (many read k (count - k) bytes) ≡ Err fault = rw (left, fails) refl in sym so_far ∙ one

  pub is_done : count ≤ k → total ≡ Ok (front, bytes)
  unfolding many
  is_done le =
      let left : count - k ≡ 0 = omega arith in
      let one : with_front front (many read k (count - k) bytes) ≡ Ok (front, bytes) =
      rw left (ap (λ ys. Ok (ys, bytes)) (append-nil front)) in
      sym so_far ∙ one

-- ---- steps that change a state

module _ {S : Type 0} (step : ℕ → S → List ℕ → Result (S × List ℕ) Fault) (state : S) (count k : ℕ) (bytes : List ℕ)
    (total : Result (S × List ℕ) Fault) (so_far : through step k (count - k) state bytes ≡ total) where
  pub steps : (next : S) (after : List ℕ) → k < count → step k state bytes ≡ Ok (next, after)
      → through step (k + 1) (count - (k + 1)) next after ≡ total
  unfolding through
  steps next after lt reads =
      let left : count - k ≡ suc (count - (k + 1)) = omega arith in
      let one : through step k (count - k) state bytes ≡ through step (k + 1) (count - (k + 1)) next after = rw (left, reads) refl in
      sym one ∙ so_far

  pub breaks : (e : Stop) → k < count → Fails e (step k state bytes) → Fails e total
  unfolding through
  breaks Memory lt fails = tt
  breaks (Bad fault) lt fails =
      let left : count - k ≡ suc (count - (k + 1)) = omega arith in
      let one : through step k (count - k) state bytes ≡ Err fault = rw (left, fails) refl in sym so_far ∙ one

  pub is_through : count ≤ k → total ≡ Ok (state, bytes)
  unfolding through
  is_through le =
      let left : count - k ≡ 0 = omega arith in
      let one : through step k (count - k) state bytes ≡ Ok (state, bytes) = rw left refl in sym so_far ∙ one
