-- All care points of an output: the families that they need, and a store that holds them.
use Rattle.std.specs.Prelude.{ℕ, List, [], ◌∷◌, ◌++◌}
use Rattle.lattice.specs.Family.{Covers, Family}
use Rattle.lattice.specs.WorkingLists.{care_list, care_set, working_set}
use Rattle.node_store.specs.Stores.{Denotes, State}
use Rattle.node_store.specs.declared.store.Handle.{Handle}
use Rattle.pla_reader.specs.Reading.{Description}

-- the families that the care points of an output need: those of its care sets, and all of them
abbrev pub points_list : Description → ℕ → List Family
points_list d output =
    care_list d.inputs d.kind d.rows output ++ care_set d.inputs d.kind d.rows output ∷ []

-- the handle is of the care points of the output, and what they needed is held
pub record HoldsPoints (s : State) (d : Description) (output : ℕ) (points : Handle) : Type 0 where
  pub denotes : Denotes s points (care_set d.inputs d.kind d.rows output)
  pub held : Covers s.held (working_set d.inputs (points_list d output))
