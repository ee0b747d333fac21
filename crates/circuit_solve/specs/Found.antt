-- Families that were found one after the other, and what a search gives on a table of so many slots.
use Rattle.std.specs.Prelude.{ℕ, ◌<◌, ◌≤◌, List, IfOk, IsErrOf, OnOk, Result}
use Rattle.std.specs.List.{AllZip, flat_map}
use Rattle.lattice.specs.Family.{Covers, Family}
use Rattle.lattice.specs.WorkingLists.{working_set}
use Rattle.node_store.specs.Stores.{Denotes, State}
use Rattle.node_store.specs.declared.store.Handle.{Handle}
use Rattle.set_algebra.specs.declared.refusal.TermsRefusal.{TermsRefusal}
use Rattle.set_algebra.specs.declared.refusal.TermsRefusal.TheVariants.{Full, Over}

-- the handles are those of the families of some things, and what each of these needed is held
pub record AreFound {T : Type 0} (s : State) (n : ℕ) (family_of : T → Family) (needs : T → List Family) (things : List T)
    (found : List Handle) : Type 0 where
  pub each : AllZip (λ x h. Denotes s h (family_of x)) things found
  pub held : Covers s.held (working_set n (flat_map needs things))

-- what a search gives that needs so many nodes, in a store with so many planned families, and counts so many leads or terms: an answer,
-- where the nodes and the count are no more than the slots and the limit, or the refusal of the first that is more, or want of memory.
-- Where more than the needed families are planned, it may be full of those.
pub record SearchGives {T : Type 0} (slots limit planned nodes count : ℕ) (IsAnswer : T → Type 0) (result : Result T TermsRefusal)
    : Type 0 where
  pub answer : IfOk result IsAnswer
  pub fits : OnOk result (nodes ≤ slots)
  pub few : OnOk result (count ≤ limit)
  pub exhausted : IsErrOf result Full → slots < planned
  pub terms : IsErrOf result Over → (nodes ≤ slots) × (limit < count)
