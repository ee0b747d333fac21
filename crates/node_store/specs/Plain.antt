-- The table of a store for one thread: its nodes in the order of their slots.
use Rattle.std.specs.Prelude.{◌≡◌, ℕ, ◌+◌, ◌-◌, Some, None, List, [], ◌∷◌, ◌++◌, slice_get, drop, unwrap_or}
use Rattle.lattice.specs.Family.{Family, Has}
use Rattle.lattice.specs.Cofactors.{join}
use Rattle.node_store.specs.Stores.{State, IsNode, node_family, IsResult}
use Rattle.node_store.specs.declared.store.Node.{Node}
use Rattle.node_store.specs.declared.store.Handle.{Handle}
use Rattle.node_store.specs.declared.key.Key.{Key}

-- the family of a node over handles whose families are fs
abbrev pub at_node : ℕ → List Family → Node → Family
at_node vars fs n = join (vars - n.var) (unwrap_or (slice_get fs n.lo.0) []) (unwrap_or (slice_get fs n.hi.0) [])

-- fs, and then the families of the nodes, each over the handles before it
abbrev pub grown : ℕ → List Family → List Node → List Family
grown vars fs [] = fs
grown vars fs (n ∷ ns) = grown vars (fs ++ at_node vars fs n ∷ []) ns

-- the families of the handles, from Handle(0) on
unfoldable pub families : ℕ → List Node → List Family
families vars nodes = grown vars ([] ∷ (0 ∷ []) ∷ []) nodes

-- what a store with these nodes stands for
unfoldable pub plain_state : ℕ → ℕ → List Family → ℕ → List Node → State
plain_state vars capacity plan refusals nodes = record {
  known = slice_get (families vars nodes);
  held = drop 2 (families vars nodes);
  plan = plan;
  vars = vars;
  capacity = capacity;
  refusals = refusals;
  table = None;
  history = [];
}

-- each slot has a node over known handles, for a family of the plan, and no family has two handles
pub record IsTable (s : State) (nodes : List Node) : Type 0 where
  pub node : (k : ℕ) (n : Node) → slice_get nodes k ≡ Some n → IsNode s n
  pub here : (k : ℕ) (n : Node) → slice_get nodes k ≡ Some n → s.known (k + 2) ≡ Some (node_family s n)
  pub planned : (k : ℕ) (n : Node) → slice_get nodes k ≡ Some n → Has s.plan (node_family s n)
  pub one_to_one : (i j : ℕ) (f : Family) → s.known i ≡ Some f → s.known j ≡ Some f → i ≡ j

-- each kept entry is a result
abbrev pub AreResults : State → List (Key × Handle) → Type 0
AreResults s es = (i : ℕ) (e : Key × Handle) → slice_get es i ≡ Some e → IsResult s e.0.op e.0.a e.0.b e.1
