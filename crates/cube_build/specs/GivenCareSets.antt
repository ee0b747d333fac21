-- The care sets of an output, as calls give them, and the covers from which they are found.
use Rattle.std.specs.Prelude.{ℕ, List, [], ◌∷◌, Result}
use Rattle.std.specs.List.{AllZip}
use Rattle.lattice.specs.Family.{Family, Covers, power, minus_of, union_of}
use Rattle.lattice.specs.Rows.{care_zeros, care_ones, cover}
use Rattle.lattice.specs.WorkingLists.{working_set, care_list, cover_list}
use Rattle.lattice.specs.declared.row.Row.{Row}
use Rattle.lattice.specs.declared.kind.Kind.{Kind}
use Rattle.node_store.specs.Stores.{State, Denotes}
use Rattle.node_store.specs.declared.store.Handle.{Handle}
use Rattle.node_store.specs.declared.store.Full.{Full}
use Rattle.set_algebra.specs.GivenPoints.{GivesPoints}
use Rattle.set_algebra.specs.declared.points.ValuedPoints.{ValuedPoints}
use Rattle.cube_build.specs.PointSets.{set_rows, sets_of}
use Rattle.cube_build.specs.declared.covers.PointSet.{PointSet}

-- what is needed to build the care sets of an output: their working set
abbrev pub care_needs : ℕ → Kind → List Row → ℕ → List Family
care_needs n kind rows output = working_set n (care_list n kind rows output)

-- a call that gives the care sets of an output and then holds what they needed, or finds the store full
abbrev pub GivesCareSets : State → State → Result ValuedPoints Full → ℕ → Kind → List Row → ℕ → Type 0
GivesCareSets before after result n kind rows output =
    GivesPoints before after result (care_zeros n kind rows output) (care_ones n kind rows output) (care_needs n kind rows output)

-- ---- covers

-- the handle is of the points of a set of the output, and what they needed is held
pub record IsCover (s : State) (rows : List Row) (output : ℕ) (set : PointSet) (h : Handle) : Type 0 where
  pub denotes : Denotes s h (cover s.vars (set_rows set output rows))
  pub held : Covers s.held (working_set s.vars (cover_list s.vars (set_rows set output rows)))

-- the handles are of all sets of the output, in order
abbrev pub AreCovers : State → Kind → List Row → ℕ → List Handle → Type 0
AreCovers s kind rows output = AllZip (IsCover s rows output) (sets_of kind)

-- they are the covers of some output, whose care sets are in the plan
abbrev pub MayGiveCareSets : State → Kind → List Handle → Type 0
MayGiveCareSets s kind covers =
    (rows : List Row) × (output : ℕ) × AreCovers s kind rows output covers × Covers s.plan (care_needs s.vars kind rows output)

-- a call that gives the care sets of an output from its covers, whichever output they are of
abbrev pub GivesCareSetsFrom : State → State → Result ValuedPoints Full → Kind → List Handle → Type 0
GivesCareSetsFrom before after result kind covers =
    (rows : List Row) (output : ℕ) → AreCovers before kind rows output covers → GivesCareSets before after result before.vars kind rows output

-- ---- what is built from the covers

-- for the points outside a family
abbrev pub outside_list : ℕ → Family → List Family
outside_list n points = power n ∷ minus_of n (power n) points ∷ []

-- in a type fd, from ON and DC
abbrev pub fd_list : ℕ → Family → Family → List Family
fd_list n on dc = minus_of n on dc ∷ union_of n on dc ∷ outside_list n (union_of n on dc)

-- in a type fdr, from ON, OFF and DC
abbrev pub fdr_list : ℕ → Family → Family → Family → List Family
fdr_list n on off dc = minus_of n on dc ∷ minus_of n off dc ∷ []
