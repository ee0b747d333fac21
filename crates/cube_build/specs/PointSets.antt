-- The sets of points of an output: which ones a type has, and which rows have their cube in ON, in OFF and in DC.
use Rattle.std.specs.Prelude.{ℕ, List, [], ◌∷◌}
use Rattle.lattice.specs.Rows.{rows_with}
use Rattle.lattice.specs.declared.row.Row.{Row}
use Rattle.lattice.specs.declared.kind.Kind.{Kind}
use Rattle.lattice.specs.declared.kind.Kind.TheVariants.{F, Fd, Fr, Fdr}
use Rattle.cube_build.specs.declared.covers.PointSet.{PointSet}
use Rattle.cube_build.specs.declared.covers.PointSet.TheVariants.{On, Off, Dc}

-- the sets that each output of a type has
abbrev pub sets_of : Kind → List PointSet
sets_of F = On ∷ []
sets_of Fd = On ∷ Dc ∷ []
sets_of Fr = On ∷ Off ∷ []
sets_of Fdr = On ∷ Off ∷ Dc ∷ []

-- the outputs for which the row's cube is in the set
abbrev pub mask_of : PointSet → Row → ℕ
mask_of On = λ r. r.on
mask_of Off = λ r. r.off
mask_of Dc = λ r. r.dc

-- the rows whose cubes are in the set of the output
abbrev pub set_rows : PointSet → ℕ → List Row → List Row
set_rows set = rows_with (mask_of set)
