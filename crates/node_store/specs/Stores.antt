-- What contracts see of a store of diagram nodes, and what each of its calls may do to it.
use Rattle.std.specs.Prelude.{◌≡◌, ◌≢◌, ℕ, ◌+◌, ◌-◌, ◌^◌, ◌<◌, ◌≤◌, suc, ◌↔◌, Option, Some, is_some, IsNone, IfSome, Result, IfOk, OnOk}
use Rattle.std.specs.Prelude.{OnErr, List, [], ◌∷◌, ◌++◌, length, unwrap_or, true, false, cond}
use Rattle.lattice.specs.Family.{Family, IsFamily, Covers, is_node_list}
use Rattle.lattice.specs.Cofactors.{join, low_cofactor, high_cofactor, sub}
use Rattle.lattice.specs.Counts.{Rose}
use Rattle.lattice.specs.History.{IsLegal}
use Rattle.lattice.specs.Operations.{takes_family, takes_variable, answer, IsAllowed}
use Rattle.lattice.specs.WorkingLists.{needs}
use Rattle.lattice.specs.declared.limits.TheConstants.{MAX_VARS}
use Rattle.lattice.specs.declared.op.Op.{Op}
use Rattle.lattice.specs.declared.entry.Entry.{Entry}
use Rattle.node_store.specs.declared.store.Handle.{Handle}
use Rattle.node_store.specs.declared.store.Node.{Node}
use Rattle.node_store.specs.declared.store.Full.{Full}

-- The meanings of a store: the families of the handles that it knows, the families that it holds in its slots, those that
-- it may be asked to hold, the numbers of variables and of slots, how many interns were refused, the name of the shared
-- table on which it works, if it does, and what it met there, asked for and was refused.
pub record State : Type 0 where
  pub known : ℕ → Option Family
  pub held : List Family
  pub plan : List Family
  pub vars : ℕ
  pub capacity : ℕ
  pub refusals : ℕ
  pub table : Option (List ℕ)
  pub history : List Entry

-- the store knows the handle
abbrev pub Knows : State → Handle → Type 0
Knows s h = is_some (s.known h.0) ≡ true

-- what stands past the end of a list of handles
abbrev pub no_handle : Handle
no_handle = record { 0 = 0 }

-- the family of a known handle
abbrev pub family : State → Handle → Family
family s h = unwrap_or (s.known h.0) []

-- the store knows the handle, for this family
abbrev pub Denotes : State → Handle → Family → Type 0
Denotes s h f = s.known h.0 ≡ Some f

-- the family that a node stands for: the members of its low child, and those of its high child with its variable put in
abbrev pub node_family : State → Node → Family
node_family s n = join (s.vars - n.var) (family s n.lo) (family s n.hi)

-- two known handles, whose families have no variable up to var
pub record AreParts (s : State) (var : ℕ) (lo hi : Handle) : Type 0 where
  pub first : 1 ≤ var
  pub last : var ≤ s.vars
  pub lo_known : Knows s lo
  pub hi_known : Knows s hi
  pub lo_after : IsFamily (s.vars - var) (family s lo)
  pub hi_after : IsFamily (s.vars - var) (family s hi)

-- a node over handles that the store knows
pub record IsNode (s : State) (n : Node) : Type 0 where
  pub parts : AreParts s n.var n.lo n.hi
  pub full : n.hi.0 ≢ 0

-- what a call of `node` finds of a handle; s is the state before the call and t the one after it
pub record IsNodeOf (s t : State) (h : Handle) (node : Option Node) : Type 0 where
  pub constant : IsNone node ↔ (h.0 < 2)
  pub is_node : IfSome node (IsNode t)
  pub family_is : IfSome node (λ n. node_family t n ≡ family s h)

-- what is true of every store
pub record IsSound (s : State) : Type 0 where
  pub empty : s.known 0 ≡ Some []
  pub unit : s.known 1 ≡ Some (0 ∷ [])
  pub families : (h : ℕ) (f : Family) → s.known h ≡ Some f → IsFamily s.vars f
  pub one_to_one : (h k : ℕ) (f : Family) → s.known h ≡ Some f → s.known k ≡ Some f → h ≡ k
  pub subs : (h : ℕ) (f : Family) → s.known h ≡ Some f → Covers s.held (sub s.vars f)
  pub distinct : is_node_list s.held ≡ true
  pub room : length s.held ≤ s.capacity
  pub planned : Covers s.plan s.held
  pub vars_low : 1 ≤ s.vars
  pub vars_high : s.vars ≤ MAX_VARS
  pub counted : s.refusals < 2 ^ 64
  pub legal : IsLegal s.capacity s.history

-- what a store did adds to its history at the end
abbrev pub Adds : List Entry → List Entry → Type 0
Adds old new = (more : List Entry) × (new ≡ old ++ more)

-- t is a later state of s: it knows and holds all that s did, and has the same plan, variables, slots and table
pub record Grows (s t : State) : Type 0 where
  pub known : (h : ℕ) (f : Family) → s.known h ≡ Some f → t.known h ≡ Some f
  pub held : Covers t.held s.held
  pub plan : t.plan ≡ s.plan
  pub vars : t.vars ≡ s.vars
  pub capacity : t.capacity ≡ s.capacity
  pub table : t.table ≡ s.table
  pub refusals : s.refusals ≤ t.refusals
  pub history : Adds s.history t.history

-- an intern was refused on the way from s to t, and the plan has more families than the store has slots
pub record IsFull (s t : State) : Type 0 where
  pub rose : Rose s.refusals t.refusals
  pub over : t.capacity < length t.plan

-- ---- what a call does to a store

-- a call that interns nothing
pub record Reads (before after : State) : Type 0 where
  pub grows : Grows before after
  pub quiet : after.refusals ≡ before.refusals

-- a call that gives the handle of a family and then holds the families that it needed, or finds the store full
pub record Gives (before after : State) (result : Result Handle Full) (f : Family) (needed : List Family) : Type 0 where
  pub grows : Grows before after
  pub ok : IfOk result (λ h. Denotes after h f)
  pub held : OnOk result (Covers after.held needed)
  pub quiet : OnOk result (after.refusals ≡ before.refusals)
  pub full : OnErr result (IsFull before after)

-- lo and hi are the parts of a at var, wherever the node is the one of a, and a has no variable before var
abbrev pub ArePartsOf : Handle → Option Node → ℕ → Handle → Handle → Type 0
ArePartsOf a node var lo hi =
    (s t : State) → IsSound s → IsSound t → Grows s t → Knows s a → IsNodeOf s t a node → 1 ≤ var → var ≤ s.vars
    → IsFamily (suc (s.vars - var)) (family s a)
    → Denotes t lo (low_cofactor (s.vars - var) (family s a)) × Denotes t hi (high_cofactor (s.vars - var) (family s a))

-- the plan has the families of f's diagram
abbrev pub IsPlanned : State → Family → Type 0
IsPlanned s f = Covers s.plan (sub s.vars f)

-- a call that needs the families of its result's diagram alone
abbrev pub Builds : State → State → Result Handle Full → Family → Type 0
Builds before after result f = Gives before after result f (sub before.vars f)

-- ---- kept results

-- the family of an operation's second operand, and the empty one where it takes none
abbrev pub second : State → Op → ℕ → Family
second s op b = cond (takes_family op) (unwrap_or (s.known b) []) []

-- the operands of an operation: a is a known handle, and b a known handle, a variable or 0, as the operation takes it
pub record AreOperands (s : State) (op : Op) (a : Handle) (b : ℕ) : Type 0 where
  pub first : Knows s a
  pub second_handle : takes_family op ≡ true → is_some (s.known b) ≡ true
  pub second_variable : takes_variable op ≡ true → (1 ≤ b) × (b ≤ s.vars + 1)
  pub second_none : takes_family op ≡ false → takes_variable op ≡ false → b ≡ 0

-- the working set of an operation on operands
abbrev pub needs_of : State → Op → Handle → ℕ → List Family
needs_of s op a b = needs op s.vars (family s a) (second s op b) b

-- r is the result of an operation on operands that its condition allows, and its working set is held
pub record IsResult (s : State) (op : Op) (a : Handle) (b : ℕ) (r : Handle) : Type 0 where
  pub operands : AreOperands s op a b
  pub allowed : IsAllowed op s.vars (family s a) (second s op b) b
  pub denotes : Denotes s r (answer op s.vars (family s a) (second s op b) b)
  pub held : Covers s.held (needs_of s op a b)
