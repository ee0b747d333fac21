-- What a store for one thread shows besides what every store does.
use Rattle.std.specs.Prelude.{◌≡◌, ℕ, Option, List}
use Rattle.std.specs.Map.{lookup}
use Rattle.lattice.specs.declared.op.Op.{Op}
use Rattle.node_store.specs.Stores.{State}
use Rattle.node_store.specs.Plain.{plain_state}
use Rattle.node_store.specs.declared.store.Node.{Node}
use Rattle.node_store.specs.declared.store.Handle.{Handle}
use Rattle.node_store.specs.declared.key.Key.{Key}
use Rattle.node_store.specs.declared.plain.PlainStore.{PlainStore}
use Rattle.node_store.specs.contracts.key.KeyPartialEq.TheImpl as key_eq

-- the nodes in the order of their slots, which is that of first interning
abbrev pub nodes_of : PlainStore → List Node
nodes_of s = s.nodes.keys

-- the keys with their results, in the order in which they were kept
abbrev pub kept_of : PlainStore → List (Key × Handle)
kept_of s = s.kept.entries

-- the store as a store
abbrev pub state_of : PlainStore → State
state_of s = plain_state s.vars s.capacity s.plan.families s.refused (nodes_of s)

-- the key of an operation on operands
abbrev pub key_of : Op → Handle → ℕ → Key
key_of op a b = record { op = op; a = a; b = b }

-- the result that is kept for a key
abbrev pub result_for : List (Key × Handle) → Key → Option Handle
result_for kept key = lookup (key_eq.eq-value.it key) kept

-- both stores are alike in all that they show
pub record IsUnchanged (old new : PlainStore) : Type 0 where
  pub state : state_of new ≡ state_of old
  pub nodes : nodes_of new ≡ nodes_of old
  pub kept : kept_of new ≡ kept_of old
