-- One job that several workers do, each the whole of it.
use Rattle.std.specs.Prelude.{ℕ, Result}
use Rattle.node_store.specs.Stores.{State, Gives}
use Rattle.node_store.specs.declared.store.Handle.{Handle}
use Rattle.node_store.specs.declared.store.Full.{Full}
use Rattle.unique_table.specs.Passes.{twin_of}
use Rattle.fork_branches.specs.Branches.{GivesBoth, Forks}
use Rattle.fork_branches.specs.Jobs.{Tasks, needed_by}

-- a call that gives the job's family
abbrev pub Runs : Tasks → ℕ → State → State → Result Handle Full → Type 0
Runs tasks x s t r = Gives s t r (tasks.wanted x) (needed_by tasks x)

-- two calls that do, or of which one finds the store full
abbrev pub RunsTwice : Tasks → ℕ → State → State → Result (Handle × Handle) Full → Type 0
RunsTwice tasks x s t r = GivesBoth s t r (tasks.wanted x) (tasks.wanted x) (needed_by tasks x) (needed_by tasks x)

-- two branches that do, each from a twin of s
abbrev pub ForksRunning : Tasks → ℕ → State → State → Result (Handle × Handle) Full → Type 0
ForksRunning tasks x s t r = Forks s t r (λ u q. Runs tasks x (twin_of s) u q) (λ u q. Runs tasks x (twin_of s) u q)

-- two branches did, whatever they gave, and t took in what both of them left
pub record IsRunTwice (tasks : Tasks) (x : ℕ) (s t : State) : Type 0 where
  pub result : Result (Handle × Handle) Full
  pub forks : ForksRunning tasks x s t result
