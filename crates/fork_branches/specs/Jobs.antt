-- What jobs are to give.
use Rattle.std.specs.Prelude.{ℕ, List}
use Rattle.std.specs.List.{Contains}
use Rattle.lattice.specs.Family.{Family}
use Rattle.lattice.specs.WorkingLists.{working_set}
use Rattle.node_store.specs.Stores.{State, Denotes}
use Rattle.node_store.specs.declared.store.Handle.{Handle}

-- how many jobs there are, the number of variables of their families, the handles that the jobs use, each with its family, and
-- for each number the family that its job gives and the working list of the job
pub record Tasks : Type 0 where
  pub total : ℕ
  pub vars : ℕ
  pub uses : List (Handle × Family)
  pub wanted : ℕ → Family
  pub working : ℕ → List Family

-- the working set of a job
abbrev pub needed_by : Tasks → ℕ → List Family
needed_by tasks x = working_set tasks.vars (tasks.working x)

-- a store knows each handle that the jobs use, for its family
abbrev pub KnowsUses : Tasks → State → Type 0
KnowsUses tasks s = (h : Handle) (f : Family) → Contains tasks.uses (h, f) → Denotes s h f
