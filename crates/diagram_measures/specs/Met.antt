-- What is kept of the nodes that were met.
use Rattle.std.specs.Prelude.{◌≡◌, ℕ, ◌↔◌, ◌⊎◌, List, map, length}
use Rattle.std.specs.List.{All}
use Rattle.std.specs.Map.{keys_of}
use Rattle.lattice.specs.Family.{Family, Has, Covers}
use Rattle.lattice.specs.Cofactors.{sub}
use Rattle.lattice.specs.WorkingLists.{working_set}
use Rattle.node_store.specs.Stores.{State, Knows, family}
use Rattle.node_store.specs.declared.store.Handle.{Handle}
use Rattle.diagram_measures.specs.Measured.{degree_of}
use Rattle.diagram_measures.specs.declared.measured.Counts.{Counts}

-- the terms and the degree of a family
pub record AreCounts (f : Family) (c : Counts) : Type 0 where
  pub terms : c.terms ≡ length f
  pub degree : c.degree ≡ degree_of f

-- a known handle with the counts of its family
pub record IsCounted (s : State) (entry : Handle × Counts) : Type 0 where
  pub known : Knows s entry.0
  pub counts : AreCounts (family s entry.0) entry.1

-- the families of the handles that were met
abbrev pub families_met : State → List (Handle × Counts) → List Family
families_met s met = map (family s) (keys_of met)

-- each handle that was met has its counts, and with it all nodes of its diagram were met
pub record AreMet (s : State) (met : List (Handle × Counts)) : Type 0 where
  pub counted : All (IsCounted s) met
  pub whole : Covers (families_met s met) (working_set s.vars (families_met s met))

-- after a diagram that was met before and its nodes are met, and nothing else
abbrev pub Meets : ℕ → Family → (before after : List Family) → Type 0
Meets n f before after = (g : Family) → Has after g ↔ (Has before g ⊎ Has (sub n f) g)
