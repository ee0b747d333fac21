-- What a search for contradictions finds, and that it is one thing.
use Rattle.std.proofs.Common.{◌≡◌, ◌⊎◌, arith, Option}
use Rattle.std.specs.Prelude.{IfSome, IsNone}
use Rattle.lattice.specs.Words.{IsConsistent}
use Rattle.pla_reader.specs.declared.pla.Pla.{Pla}
use Rattle.cube_sets.specs.Clashes.{IsClash, IsLeastOf}
use Rattle.cube_sets.specs.declared.clash.Clash.{Clash}
-- A consistent description has no clash.
pub use Rattle.cube_sets.proofs.Consistent.{none_of_consistent}

-- There is one least clash at most.
pub one_least : (holds : Clash → Type 0) (c e : Clash) → IsLeastOf holds c → IsLeastOf holds e → c ≡ e
one_least holds c e a b = let after = a.least e b.clash in let before = b.least c a.clash in grind arith

-- A description is consistent, or it has a least clash.
abbrev pub Found : Pla → Type 0
Found p = IsConsistent p.inputs p.outputs p.rows ⊎ ((c : Clash) × IsLeastOf (IsClash p.inputs p.outputs p.rows p.rows) c)

-- So a search finds the one or the other.
pub searched : (p : Pla) (o : Option Clash) → (IsNone o → IsConsistent p.inputs p.outputs p.rows)
    → IfSome o (IsLeastOf (IsClash p.inputs p.outputs p.rows p.rows)) → Found p
searched p o consistent least = grind arith
