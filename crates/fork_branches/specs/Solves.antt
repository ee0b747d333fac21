-- What a list of jobs gives that were all run.
use Rattle.std.specs.Prelude.{◌≡◌, ℕ, ◌<◌, Result, Ok, Err, List, [], ◌∷◌, length, slice_index_or, slice_set}
use Rattle.lattice.specs.Family.{Covers}
use Rattle.node_store.specs.Stores.{State, Denotes, IsFull}
use Rattle.node_store.specs.declared.store.Handle.{Handle}
use Rattle.fork_branches.specs.Jobs.{Tasks, needed_by}
use Rattle.fork_branches.specs.declared.crew.Answer.{Answer}
use Rattle.node_store.specs.declared.refusal.SolveRefusal.{SolveRefusal}
use Rattle.node_store.specs.declared.refusal.SolveRefusal.TheVariants.{Full, Memory}

-- from s to t each job was run: one handle for each, of the job's family, each job's working set is held, and no intern was refused
pub record AreSolved (tasks : Tasks) (s t : State) (handles : List Handle) : Type 0 where
  pub count : length handles ≡ tasks.total
  pub each : (x : ℕ) (d : Handle) → x < tasks.total → Denotes t (slice_index_or handles x d) (tasks.wanted x)
  pub held : (x : ℕ) → x < tasks.total → Covers t.held (needed_by tasks x)
  pub quiet : t.refusals ≡ s.refusals

-- Full comes only where an intern was refused on the way from s to t, and want of memory only before the first job
abbrev pub Refuses : State → State → SolveRefusal → Type 0
Refuses s t Full = IsFull s t
Refuses s t Memory = t ≡ s

-- the jobs were run: memory did not run out
abbrev pub AreRun : {A : Type 0} → Result A SolveRefusal → Type 0
AreRun (Ok a) = Unit {0}
AreRun (Err Full) = Unit {0}
AreRun (Err Memory) = ⊥

-- each answer's handle put at its number
abbrev pub placed : List Answer → List Handle → List Handle
placed [] handles = handles
placed (a ∷ answers) handles = placed answers (slice_set handles a.number a.handle)
