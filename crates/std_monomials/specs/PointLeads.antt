-- What finds the leads of points.
use Rattle.std.specs.Prelude.{ℕ, List, ◌++◌}
use Rattle.lattice.specs.Family.{Family}
use Rattle.lattice.specs.Basis.{standard_of}
use Rattle.lattice.specs.WorkingLists.{leads_list, standard_list}

-- the families that the leads of points need
abbrev pub point_leads_list : ℕ → Family → List Family
point_leads_list n points = standard_list n points ++ leads_list n (standard_of n points)
