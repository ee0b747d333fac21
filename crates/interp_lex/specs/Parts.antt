-- The points over one variable fewer, by the cofactors of the zeros and of the ones, over n variables: z0 and o0 are the points
-- without the variable, z1 and o1 those with it.
use Rattle.std.specs.Prelude.{ℕ, List, [], ◌∷◌, ◌++◌}
use Rattle.lattice.specs.Family.{Family, union_of, inter_of, minus_of}
use Rattle.lattice.specs.Polynomial.{ones_of}
use Rattle.lattice.specs.WorkingLists.{ones_list}
use Rattle.node_store.specs.Stores.{State, Knows}
use Rattle.set_algebra.specs.declared.pairs.Cofactors.{Cofactors}

-- the members of both f and g, and those of both p and q
abbrev pub common_of : ℕ → Family → Family → Family → Family → Family
common_of n f g p q = union_of n (inter_of n f g) (inter_of n p q)

-- what they need
abbrev pub common_list : ℕ → Family → Family → Family → Family → List Family
common_list n f g p q = inter_of n f g ∷ inter_of n p q ∷ common_of n f g p q ∷ []

-- low with what is added, and high without what is removed
abbrev pub replaced_of : ℕ → Family → Family → Family → Family → Family
replaced_of n low added high removed = union_of n (union_of n low added) (minus_of n high removed)

-- what this needs
abbrev pub replaced_list : ℕ → Family → Family → Family → Family → List Family
replaced_list n low added high removed = union_of n low added ∷ minus_of n high removed ∷ replaced_of n low added high removed ∷ []

-- what the points of the upper part need
abbrev pub upper_list : ℕ → Family → Family → Family → Family → List Family
upper_list n z0 z1 o0 o1 =
    inter_of n z0 z1 ∷ inter_of n o0 o1 ∷ inter_of n z0 o1 ∷ inter_of n o0 z1 ∷ common_of n z0 z1 o0 o1 ∷ common_of n z0 o1 o0 z1 ∷ []

-- the points of one value in the lower part at h: those without the variable, those with it of the other value where h is 1,
-- and those with it of the same value where h is 0
abbrev pub lower_of : ℕ → Family → Family → Family → Family → Family
lower_of n h low same other = replaced_of n low (ones_of n h other) same (ones_of n h same)

-- what the points of the lower part at h need
abbrev pub lower_list : ℕ → Family → Family → Family → Family → Family → List Family
lower_list n h z0 z1 o0 o1 =
    ones_list n h z1 ++ (ones_list n h o1
    ++ (ones_of n h z1 ∷ ones_of n h o1 ∷ minus_of n z1 (ones_of n h z1) ∷ minus_of n o1 (ones_of n h o1)
    ∷ union_of n z0 (ones_of n h o1) ∷ union_of n o0 (ones_of n h z1) ∷ lower_of n h z0 z1 o1 ∷ lower_of n h o0 o1 z1 ∷ []))

-- the store knows the four cofactors
pub record AreKnown (s : State) (c : Cofactors) : Type 0 where
  pub a_low : Knows s c.a_low
  pub a_high : Knows s c.a_high
  pub b_low : Knows s c.b_low
  pub b_high : Knows s c.b_high
