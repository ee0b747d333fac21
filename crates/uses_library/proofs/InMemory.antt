-- What a sink in memory gained, and counts of faults that did not rise.
use Rattle.std.proofs.Common.{◌≡◌, ℕ, List, [], ◌++◌, Some, arith, subst}
use Rattle.std.specs.Io.KnownBytes.{Appends}
use Rattle.lattice.specs.Words.{Rose}

-- what was held in the beginning is nothing
pub gained : (old new text : List ℕ) → old ≡ [] → Appends (Some old) (Some new) text → new ≡ text
gained old new text none more = subst (λ (held : List ℕ). new ≡ held ++ text) none more

-- a count that is 0 did not rise
pub unharmed : (before now : ℕ) → now ≡ 0 → ¬ Rose before now
unharmed before now none = rw none (λ rose. absurd (omega (arith, rose)))
