-- What a walk along a probe path shows.
use Rattle.std.proofs.Common.{◌≡◌, ◌≢◌, ℕ, ◌+◌, ◌^◌, ◌<◌, List, sym, ◌∙◌, subst, arith}
use borrow.Author.Count.{below_more}
use Rattle.lattice.specs.declared.entry.Entry.{Entry}
use Rattle.lattice.specs.Words.{place}
use Rattle.std.proofs.lemmas.Bool.{cases_order}
use Rattle.probe_core.specs.Events.{HasPassed, HasProbed}

-- no place of the first steps is the one sought, and each was met with another word
abbrev pub HasWalked : ℕ → List Entry → ℕ → ℕ → ℕ → Type 0
HasWalked bits met at w steps = (e : ℕ) → e < steps → (place bits w e ≢ at) × HasPassed met (place bits w e) w

module _ (bits : ℕ) (met : List Entry) (at w steps : ℕ) (walked : HasWalked bits met at w steps) (here : ℕ)
    (is : here ≡ place bits w steps) where
  -- the place was reached
  pub probed : steps < 2 ^ bits → here ≡ at → HasProbed bits met at w
  probed within there = record { steps = steps; within = within; there = sym is ∙ there; passed = λ e less. (walked e less).1 }

  -- it was not reached by one step more, and the place there was met with another word
  pub walked_on : here ≢ at → HasPassed met here w → HasWalked bits met at w (steps + 1)
  walked_on other passed = below_more (λ (e : ℕ). (place bits w e ≢ at) × HasPassed met (place bits w e) w) steps walked
      (subst (λ k. (k ≢ at) × HasPassed met k w) is (other, passed))

  -- a place before it was not met with another word
  pub not_probed : here ≢ at → (HasPassed met here w → ⊥) → HasProbed bits met at w → ⊥
  not_probed other not_met p = grind (arith, walked p.steps, p.passed steps, cases_order p.steps steps, rw is at not_met)
