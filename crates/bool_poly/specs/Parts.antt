-- The parts of a polynomial g + x·h, and what the points where it is 1 are asked by.
use Rattle.std.specs.Prelude.{ℕ, ◌-◌, cond, List, [], ◌∷◌}
use Rattle.lattice.specs.Family.{Family, Covers, sum_of}
use Rattle.lattice.specs.Cofactors.{is_empty, low_cofactor, high_cofactor}
use Rattle.lattice.specs.Polynomial.{ones_of}
use Rattle.lattice.specs.WorkingLists.{ones_list, working_set}
use Rattle.lattice.specs.declared.op.Op.TheVariants.{Ones}
use Rattle.node_store.specs.Stores.{State, Knows, Denotes, family, IsPlanned, needs_of}
use Rattle.node_store.specs.declared.store.Handle.{Handle}
use Rattle.set_algebra.specs.declared.pairs.Cofactors.{Cofactors}

-- what is evaluated at the points with x, whose list without x is given: g + h, and 0 where there are no such points
unfoldable pub part_with : ℕ → Family → Family → Family → Family
part_with n low high points = cond (is_empty points) [] (sum_of n low high)

-- the parts of an operand at the variable of the cut
abbrev pub low_part : State → Cofactors → Handle → Family
low_part s c a = low_cofactor (s.vars - c.var) (family s a)

abbrev pub high_part : State → Cofactors → Handle → Family
high_part s c a = high_cofactor (s.vars - c.var) (family s a)

-- what is evaluated at the points with the variable of the cut
abbrev pub with_part : State → Cofactors → Handle → Handle → Family
with_part s c h set = part_with s.vars (low_part s c h) (high_part s c h) (high_part s c set)

-- both handles are known, and the plan has what the points of the second where the first is 1 need
pub record AsksOnes (s : State) (h set : Handle) : Type 0 where
  pub polynomial : Knows s h
  pub points : Knows s set
  pub planned : Covers s.plan (needs_of s Ones h set.0)

-- what is evaluated at the points with a variable, of the polynomial that is low without it and high with it
abbrev pub sum_at : State → Handle → Handle → Handle → Family
sum_at s low high points = part_with s.vars (family s low) (family s high) (family s points)

-- the handles are known, and the plan has that sum, and what the points where it is 1 need
pub record AsksWith (s : State) (low high points : Handle) : Type 0 where
  pub low_known : Knows s low
  pub high_known : Knows s high
  pub points_known : Knows s points
  pub sum : IsPlanned s (sum_at s low high points)
  pub planned : Covers s.plan (working_set s.vars (ones_list s.vars (sum_at s low high points) (family s points)))

-- the families that the sum and the points where it is 1 need
abbrev pub with_needs : State → Handle → Handle → Handle → List Family
with_needs s low high points =
    working_set s.vars (sum_at s low high points ∷ ones_list s.vars (sum_at s low high points) (family s points))

-- what the halves gave, of the operands x and y that were cut at the variable of c: lo has the points without the variable where
-- x is 1, and hi those with it
pub record AreOnes (s : State) (x y : Handle) (c : Cofactors) (lo hi : Handle) : Type 0 where
  pub low : Denotes s lo (ones_of s.vars (low_part s c x) (low_part s c y))
  pub high : Denotes s hi (ones_of s.vars (with_part s c x y) (high_part s c y))
  pub low_held : Covers s.held (working_set s.vars (ones_list s.vars (low_part s c x) (low_part s c y)))
  pub high_held : Covers s.held (working_set s.vars (with_part s c x y ∷ ones_list s.vars (with_part s c x y) (high_part s c y)))
