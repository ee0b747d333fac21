-- What contracts see of tokens and passes, and what splitting and joining do to them.
use Rattle.std.specs.Prelude.{◌≡◌, ℕ, suc, ◌+◌, ◌-◌, ◌^◌, ◌<◌, ◌⊎◌, length, min, Some, None, List, [], ◌∷◌, ◌++◌}
use Rattle.lattice.specs.Family.{Family, Has, Covers}
use Rattle.node_store.specs.Stores.{State, Grows, node_family}
use Rattle.lattice.specs.NodeWords.{node_word, place}
use Rattle.lattice.specs.declared.entry.Entry.{Entry}
use Rattle.lattice.specs.declared.entry.Entry.TheVariants.{Met, Ask, Full}
use Rattle.node_store.specs.declared.store.Node.{Node}
use Rattle.node_store.specs.declared.store.Handle.{Handle}
use Rattle.unique_table.specs.Told.{MetOther, IsCrowded, PassesBy}
use Rattle.unique_table.specs.Views.{Steps, name_of, known_by, steps_of, view_state}
use Rattle.unique_table.specs.declared.pass.Shared.{Shared}
use Rattle.unique_table.specs.declared.pass.Token.{Token}

-- a token as the store that a pass with it is
unfoldable pub token_state : Token → State
token_state t = view_state (name_of t.seat.table_id) t.seat.me.0

-- what was done with the token that its history does not tell
unfoldable pub token_steps : Token → Steps
token_steps t = steps_of t.seat.me.0

-- nothing was done yet
abbrev pub no_steps : Steps
no_steps = record { last = None; put = None; loads = 0; stores = 0; splits = 0 }

-- nothing was done to the table of a seat in this state, with these steps: it was never split, stored no cache word and met no slot, and
-- so no other seat is there
abbrev pub IsUntouched : State → Steps → Type 0
IsUntouched s k = (k.splits ≡ 0) × (k.stores ≡ 0) × (s.history ≡ [])

-- the name of a table
unfoldable pub table_name : Shared → List ℕ
table_name s = name_of s.table.shared.table_id

-- the name of a token's table
unfoldable pub token_table : Token → List ℕ
token_table t = name_of t.seat.table_id

-- the first store of a table: it knows the two constants
abbrev pub first_state : List ℕ → ℕ → ℕ → List Family → State
first_state name bits vars plan = record {
  known = known_by ((0, []) ∷ (1, 0 ∷ []) ∷ []);
  held = [];
  plan = plan;
  vars = vars;
  capacity = 2 ^ bits;
  refusals = 0;
  table = Some name;
  history = [];
}

-- the token is of the table
abbrev pub IsOf : Token → Shared → Type 0
IsOf t s = (token_state t).table ≡ Some (table_name s)

-- a second store of one table: it knows and holds the same, and nothing was asked of it yet
abbrev pub twin_of : State → State
twin_of s = record s { refusals = 0; history = [] }

-- u is s after it took in what t knows, holds and did
pub record IsJoined (s t u : State) : Type 0 where
  pub grows : Grows s u
  pub known : (h : ℕ) (f : Family) → t.known h ≡ Some f → u.known h ≡ Some f
  pub only : (h : ℕ) (f : Family) → u.known h ≡ Some f → (s.known h ≡ Some f) ⊎ (t.known h ≡ Some f)
  pub held : Covers u.held t.held
  pub only_held : (f : Family) → Has u.held f → Has s.held f ⊎ Has t.held f
  pub refusals : u.refusals ≡ min (s.refusals + t.refusals) (2 ^ 64 - 1)
  pub history : u.history ≡ s.history ++ t.history

-- ---- what a call adds to the history

-- the word of a node
abbrev pub word_of : Node → ℕ
word_of n = node_word n.var n.lo.0 n.hi.0

-- the slots before its own on the node's path were met, each once and with another node, then the handle's slot with the
-- node, which is what was asked
pub record IsInterned (s t : State) (n : Node) (h : Handle) : Type 0 where
  pub bits : ℕ
  pub slots : s.capacity ≡ 2 ^ bits
  pub before : List Entry
  pub few : length before < s.capacity
  pub others : PassesBy bits (word_of n) 0 before
  pub there : h.0 ≡ suc (suc (place bits (word_of n) (length before)))
  pub history : t.history ≡ s.history ++ (before ++ Met h.0 (word_of n) ∷ Ask h.0 (word_of n) ∷ [])

-- each slot was met once, with another node, and the last entry says that the table was full: the slots have distinct
-- families of the plan, and the node's is none of them
pub record FindsFull (s t : State) (n : Node) : Type 0 where
  pub bits : ℕ
  pub slots : s.capacity ≡ 2 ^ bits
  pub before : List Entry
  pub all : length before ≡ s.capacity
  pub others : PassesBy bits (word_of n) 0 before
  pub all_met : (slot : ℕ) → slot < s.capacity → MetOther before (word_of n) slot
  pub over : IsCrowded s.capacity s.plan (node_family s n)
  pub history : t.history ≡ s.history ++ (before ++ Full (word_of n) ∷ [])

-- the handle's slot was met with the node
abbrev pub HasMet : State → State → Handle → Node → Type 0
HasMet s t h n = t.history ≡ s.history ++ Met h.0 (word_of n) ∷ []
