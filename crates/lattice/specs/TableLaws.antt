-- Laws on tables: a probe path comes to each place once, filling keeps words, each handle of a canonical one denotes a family, what is
-- known of handles is one-to-one, and what makes a table sound.
use Rattle.std.specs.Prelude.{◌≡◌, ◌<◌, ◌≤◌, ◌^◌, ℕ, List, Option, Some, None, length, slice_index, slice_set}
use Rattle.std.specs.List.{All}
use Rattle.lattice.specs.Family.{Family}
use Rattle.lattice.specs.Tables.{IsHandle, IsCanonical, KeepsWords, DenotesIn}
use Rattle.lattice.specs.NodeWords.{place, cache_bits}
use Rattle.lattice.specs.CacheWords.{IsVacantOrTrue}
use Rattle.lattice.specs.History.{FitsHistory}
use Rattle.lattice.specs.SoundTables.{IsSoundOn, IsSoundTable}
use Rattle.lattice.specs.declared.entry.Entry.{Entry}
use Rattle.lattice.specs.declared.limits.TheConstants.{MIN_BITS}

-- of its 2 ^ bits places the word's path comes to this one once
pub record ComesOnce (bits w at : ℕ) : Type 0 where
  pub steps : ℕ
  pub within : steps < 2 ^ bits
  pub there : place bits w steps ≡ at
  pub only : (d : ℕ) → d < 2 ^ bits → place bits w d ≡ at → d ≡ steps

-- A probe path comes to each place of the table once.
abbrev pub PathIsWhole : Type 0
PathIsWhole = (bits w at : ℕ) → MIN_BITS ≤ bits → at < 2 ^ bits → ComesOnce bits w at

-- Filling a vacant place keeps the words of all filled ones.
abbrev pub FillingKeepsWords : Type 0
FillingKeepsWords = (ws : List ℕ) (i w : ℕ) → slice_index ws i ≡ 0 → KeepsWords ws (slice_set ws i w)

-- In a canonical table each constant and each handle of a filled slot denotes a family.
abbrev pub HandlesDenote : Type 0
HandlesDenote =
    (bits vars h : ℕ) (ws : List ℕ) → IsCanonical bits vars ws → IsHandle ws h → (f : Family) × DenotesIn vars ws h f

-- each handle that the map knows denotes the family that it has there
abbrev pub AgreesWith : ℕ → List ℕ → (ℕ → Option Family) → Type 0
AgreesWith vars ws known = (h : ℕ) (f : Family) → known h ≡ Some f → DenotesIn vars ws h f

-- A map that agrees with a canonical table is one-to-one.
abbrev pub KnownIsOneToOne : Type 0
KnownIsOneToOne =
    (bits vars : ℕ) (ws : List ℕ) (known : ℕ → Option Family) → IsCanonical bits vars ws → AgreesWith vars ws known
    → (h k : ℕ) (f : Family) → known h ≡ Some f → known k ≡ Some f → h ≡ k

-- what the first map knows, and else what the second one does
abbrev pub first_known : Option Family → Option Family → Option Family
first_known (Some f) other = Some f
first_known None other = other

abbrev pub union_of_maps : (ℕ → Option Family) → (ℕ → Option Family) → ℕ → Option Family
union_of_maps known other h = first_known (known h) (other h)

-- the second map knows all that the first one does
abbrev pub KnowsAllOf : (ℕ → Option Family) → (ℕ → Option Family) → Type 0
KnowsAllOf known more = (h : ℕ) (f : Family) → known h ≡ Some f → more h ≡ Some f

-- The union of two maps that agree with one table agrees with it, and knows all that both know.
abbrev pub UnionAgrees : Type 0
UnionAgrees =
    (vars : ℕ) (ws : List ℕ) (known other : ℕ → Option Family) → AgreesWith vars ws known → AgreesWith vars ws other
    → let both = union_of_maps known other in AgreesWith vars ws both × KnowsAllOf known both × KnowsAllOf other both

-- A map that agrees with a table agrees with each later one in which filled slots keep their words.
abbrev pub AgreementStays : Type 0
AgreementStays =
    (vars : ℕ) (ws later : List ℕ) (known : ℕ → Option Family) → KeepsWords ws later → AgreesWith vars ws known
    → AgreesWith vars later known

-- A canonical table is sound with as many cache words as it has, each of them vacant or true at its place.
abbrev pub WordsAreSound : Type 0
WordsAreSound =
    (bits vars : ℕ) (ws : List ℕ) → IsCanonical bits vars ws → (words : List ℕ) → length words ≡ 2 ^ cache_bits bits
    → ((place : ℕ) → IsVacantOrTrue (cache_bits bits) vars ws place (slice_index words place)) → IsSoundTable bits vars ws words

-- A history that fits a canonical table is sound on it, with handles of the table.
abbrev pub FittingIsSound : Type 0
FittingIsSound =
    (bits vars : ℕ) (ws : List ℕ) → IsCanonical bits vars ws → (met : List Entry) (handles : List ℕ) → FitsHistory (2 ^ bits) ws met
    → All (IsHandle ws) handles → IsSoundOn bits vars ws met handles
