-- What a call of a source or a sink does to its count of faults.
use Rattle.std.specs.Prelude.{◌≡◌, ◌⊎◌, ◌<◌, ◌≤◌, ℕ, List, length, Option, Result, OnOk, OnErr}
use Rattle.std.specs.Io.{StartsWith}
use Rattle.lattice.specs.Counts.{Rose}
use Rattle.std.specs.Io.KnownBytes.{Appends, Consumes, IsAtEnd}

-- the count never falls, stays where the call succeeds, and rises where it fails
pub record HasCause {T E : Type 0} (before now : ℕ) (result : Result T E) : Type 0 where
  pub later : before ≤ now
  pub kept : OnOk result (now ≡ before)
  pub rose : OnErr result (Rose before now)

-- known bytes grew by a front part of the text
abbrev pub GainsFront : (old new : Option (List ℕ)) → (text : List ℕ) → Type 0
GainsFront old new text = (part : List ℕ) × StartsWith text part × Appends old new part

-- and by less than the whole of it
pub record GainsLess (old new : Option (List ℕ)) (text : List ℕ) : Type 0 where
  pub part : List ℕ
  pub front : StartsWith text part
  pub gained : Appends old new part
  pub less : length part < length text

-- and by the whole of it, unless the count of faults rose
abbrev pub GainsUnlessRose : (old new : Option (List ℕ)) → (text : List ℕ) → (before now : ℕ) → Type 0
GainsUnlessRose old new text before now = GainsFront old new text × (Appends old new text ⊎ Rose before now)

-- at most so many bytes were taken off the front of what was left
abbrev pub LosesAtMost : (old new : Option (List ℕ)) → (most : ℕ) → Type 0
LosesAtMost old new most = (taken : List ℕ) × (length taken ≤ most) × Consumes old new taken

-- these bytes were taken off, and they are so many, or all that was left
pub record LosesUpTo (old new : Option (List ℕ)) (most : ℕ) (taken : List ℕ) : Type 0 where
  pub few : length taken ≤ most
  pub lost : Consumes old new taken
  pub full : (length taken ≡ most) ⊎ IsAtEnd new
