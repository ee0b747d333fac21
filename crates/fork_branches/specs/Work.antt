-- What job workers are asked and what they leave: numbers taken of a dealing, and the answer of each.
use Rattle.std.specs.Prelude.{◌≡◌, ℕ, ◌+◌, ◌^◌, ◌<◌, ◌≤◌, Result, OnOk, OnErr, List, [], ◌∷◌, ◌++◌, map, vec_capacity}
use Rattle.std.specs.List.{Contains}
use Rattle.lattice.specs.Family.{Covers}
use Rattle.node_store.specs.Stores.{State, Denotes, Grows, IsFull}
use Rattle.node_store.specs.declared.store.Full.{Full}
use Rattle.unique_table.specs.Passes.{token_state, twin_of, IsOf}
use Rattle.unique_table.specs.declared.pass.Shared.{Shared}
use Rattle.unique_table.specs.declared.pass.Token.{Token}
use Rattle.job_counter.specs.Numbers.{times}
use Rattle.fork_branches.specs.Branches.{TakesBoth}
use Rattle.fork_branches.specs.Jobs.{Tasks, needed_by, KnowsUses}
use Rattle.fork_branches.specs.declared.crew.Answer.{Answer}
use Rattle.fork_branches.specs.declared.crew.Worker.{Worker}
use Rattle.fork_branches.specs.declared.crew.Crew.{Crew}
use Rattle.fork_branches.specs.declared.crew.Crew.TheVariants.{Away, One, Two'}
use Rattle.fork_branches.specs.declared.crews.Branch.{Branch}

-- a store in which each job may be run: it knows what the jobs use, and each job's working set is in its plan
pub record MayWork (tasks : Tasks) (s : State) : Type 0 where
  pub few : tasks.total < 2 ^ 30
  pub vars : s.vars ≡ tasks.vars
  pub uses : KnowsUses tasks s
  pub planned : (x : ℕ) → x < tasks.total → Covers s.plan (needed_by tasks x)

-- the answer of a job: a handle of its family, and its working set is held
pub record IsAnswer (tasks : Tasks) (s : State) (a : Answer) : Type 0 where
  pub below : a.number < tasks.total
  pub denotes : Denotes s a.handle (tasks.wanted a.number)
  pub held : Covers s.held (needed_by tasks a.number)

-- from s to t workers found these answers, or found the store full
pub record Works {A : Type 0} (tasks : Tasks) (s t : State) (answers : List Answer) (result : Result A Full) : Type 0 where
  pub grows : Grows s t
  pub right : (a : Answer) → Contains answers a → IsAnswer tasks t a
  pub quiet : OnOk result (t.refusals ≡ s.refusals)
  pub full : OnErr result (IsFull s t)

-- the numbers that were answered
abbrev pub numbers_of : List Answer → List ℕ
numbers_of answers = map (λ a. a.number) answers

-- the hand is still of its dealing, with the same shares, and each number was taken with it as often as it was answered, or the store
-- was full
pub record Takes {H A : Type 0} (IsHand : H → Type 0) (shares_of : H → List ℕ) (taken_by : H → ℕ → ℕ) (before after : H)
    (answers : List Answer) (result : Result A Full) : Type 0 where
  pub of : IsHand after
  pub shares : shares_of after ≡ shares_of before
  pub took : OnOk result ((x : ℕ) → taken_by after x ≡ taken_by before x + times x (numbers_of answers))

-- ---- crews

-- the answers of all workers
abbrev pub answers_of : Crew → List Answer
answers_of Away = []
answers_of (One w) = w.answers.items
answers_of (Two' p a q b) = answers_of a ++ answers_of b

-- a worker before its first job, with room for the answers of all jobs, and with 1 to 16 workers for each of its jobs
pub record IsIdle (total : ℕ) (w : Worker) : Type 0 where
  pub none : w.answers.items ≡ []
  pub room : total ≤ vec_capacity w.answers
  pub some : 1 ≤ w.workers
  pub few : w.workers ≤ 16

-- each worker is idle
abbrev pub AreIdle : ℕ → Crew → Type 0
AreIdle total Away = ⊥
AreIdle total (One w) = IsIdle total w
AreIdle total (Two' p a q b) = AreIdle total a × AreIdle total b

-- the numbers that each worker answered
abbrev pub lists_of : Crew → List (List ℕ)
lists_of Away = []
lists_of (One w) = numbers_of w.answers.items ∷ []
lists_of (Two' p a q b) = lists_of a ++ lists_of b

-- how many workers the jobs of all job workers have
abbrev pub workers_of : Crew → ℕ
workers_of Away = 0
workers_of (One w) = w.workers
workers_of (Two' p a q b) = workers_of a + workers_of b

-- how many job workers there are
abbrev pub job_workers_of : Crew → ℕ
job_workers_of Away = 0
job_workers_of (One w) = 1
job_workers_of (Two' p a q b) = job_workers_of a + job_workers_of b

-- how many job workers and halves there are
abbrev pub size_of : Crew → ℕ
size_of Away = 0
size_of (One w) = 1
size_of (Two' p a q b) = size_of a + size_of b + 1

-- what a branch is sent: a token, for a crew of which each worker is idle
pub record IsSent (tasks : Tasks) (table : Shared) (token : Token) (crew : Crew) : Type 0 where
  pub of_table : IsOf token table
  pub may : MayWork tasks (token_state token)
  pub idle : AreIdle tasks.total crew

-- workers found answers from s to t, or found the store full
pub record DidWork (tasks : Tasks) (s t : State) : Type 0 where
  pub answers : List Answer
  pub result : Result (Unit {0}) Full
  pub works : Works tasks s t answers result

-- so many job workers did: one of them, or those of two halves, of which each worked from a twin of s and to the token that it gave
-- back, and t took in what both know, hold and did, whether or not one of them found the store full
pub data WorkedBy (tasks : Tasks) : ℕ → State → State → Type 0 where
  alone : (s t : State) → DidWork tasks s t → WorkedBy tasks 1 s t
  in_halves : (m n : ℕ) (s t : State) (first second : Token) → DidWork tasks s t → WorkedBy tasks m (twin_of s) (token_state first)
      → WorkedBy tasks n (twin_of s) (token_state second) → TakesBoth s (token_state first) (token_state second) t
      → WorkedBy tasks (m + n) s t

-- so many job workers did beside each other, and the caller did what they left
pub record WorkedOut (tasks : Tasks) (workers : ℕ) (s t : State) : Type 0 where
  pub between : State
  pub beside : WorkedBy tasks workers s between
  pub after : DidWork tasks between t

-- what it leaves
pub record IsBack (tasks : Tasks) (table : Shared) (token : Token) (crew : Crew) {H : Type 0} (back : Branch H) : Type 0 where
  pub of_table : IsOf back.token table
  pub works : Works tasks (token_state token) (token_state back.token) (answers_of back.crew.value) back.result
  pub worked : WorkedBy tasks (job_workers_of crew) (token_state token) (token_state back.token)
  pub as_many : job_workers_of back.crew.value ≡ job_workers_of crew
