-- Symbols that are read one behind the other, as a loop does.
use Rattle.std.proofs.Common.{◌≡◌, ℕ, suc, ◌-◌, ◌+◌, ◌≤◌, ◌<◌, true, false, List, Result, Ok, Err, refl, sym, ◌∙◌, arith}
use Rattle.aig_reader.specs.declared.refusal.Fault.{Fault}
use Rattle.aig_reader.specs.declared.refusal.Stop.{Stop}
use Rattle.aig_reader.specs.declared.refusal.Stop.TheVariants.{Bad, Memory}
use Rattle.aig_reader.specs.Fields.{Fails}
use Rattle.aig_reader.specs.Reading.{Names, are_over, symbol_at, symbols_at}

module _ (count k : ℕ) (names : Names) (bytes : List ℕ) (total : Result Names Fault)
    (so_far : symbols_at (count - k) names bytes ≡ total) where
  module _ (lt : k < count) where
    left : count - k ≡ suc (count - (k + 1))
    left = omega arith

    pub adds : (next : Names) (after : List ℕ) → are_over bytes ≡ false → symbol_at names bytes ≡ Ok (next, after)
        → symbols_at (count - (k + 1)) next after ≡ total
    unfolding symbols_at
    adds next after over reads =
        let one : symbols_at (count - k) names bytes ≡ symbols_at (count - (k + 1)) next after = rw (left, over, reads) refl in
        sym one ∙ so_far

    pub refuses : (e : Stop) → are_over bytes ≡ false → Fails e (symbol_at names bytes) → Fails e total
    unfolding symbols_at
    refuses Memory over fails = tt
    refuses (Bad fault) over fails =
        let one : symbols_at (count - k) names bytes ≡ Err fault = rw (left, over, fails) refl in sym so_far ∙ one

    pub over_now : are_over bytes ≡ true → total ≡ Ok names
    unfolding symbols_at
    over_now over = let one : symbols_at (count - k) names bytes ≡ Ok names = rw (left, over) refl in sym so_far ∙ one

  pub all_read : count ≤ k → total ≡ Ok names
  unfolding symbols_at
  all_read le =
      let none : count - k ≡ 0 = omega arith in let one : symbols_at (count - k) names bytes ≡ Ok names = rw none refl in sym so_far ∙ one
