-- Gates whose lines stand in any order, and how they are placed so that each stands only on what is before it.
use Rattle.std.specs.Prelude.{◌≡◌, ℕ, suc, ◌+◌, ◌*◌, ◌/◌, ◌-◌, ◌<◌, ◌≤◌, ◌%◌, Bool, true, false, not, ◌&&◌, ◌==◌, nat_lt, List, [], ◌∷◌, ◌++◌, length}
use Rattle.std.specs.Prelude.{replicate, Option, Some, None, slice_get, slice_set, slice_index, slice_index_or, if◌then◌else◌}
use Rattle.std.specs.List.{count_by}
use Rattle.lattice.specs.declared.limits.TheConstants.{MAX_VARS}
use Rattle.aig_reader.specs.declared.circuit.TheConstants.{MAX_GATES}
use Rattle.aig_reader.specs.declared.circuit.Gate.{Gate}
use Rattle.aig_reader.specs.declared.order.Order.{Order}
use Rattle.aig_reader.specs.declared.order.Placing.{Placing}
use Rattle.aig_reader.specs.declared.order.Placing.TheVariants.{Placed, OnItself}
use Rattle.aig_reader.specs.declared.order.Walk.{Walk}
use Rattle.aig_reader.specs.Ascii.{IsUpTo}

-- gates behind so many inputs, whose operands are literals of any of these variables
pub record AreGates (inputs : ℕ) (gates : List Gate) : Type 0 where
  pub few_inputs : inputs ≤ MAX_VARS
  pub few_gates : length gates ≤ MAX_GATES
  pub left : (k : ℕ) (g : Gate) → slice_get gates k ≡ Some g → g.left < 2 * (inputs + 1 + length gates)
  pub right : (k : ℕ) (g : Gate) → slice_get gates k ≡ Some g → g.right < 2 * (inputs + 1 + length gates)

-- the gate of a variable
abbrev pub gate_of : (inputs : ℕ) → List Gate → (variable : ℕ) → Option Gate
gate_of inputs gates variable = slice_get gates (variable - (inputs + 1))

-- the variable is no gate, or a gate that stands on such alone, also through others
pub data IsGrounded (inputs : ℕ) (gates : List Gate) : (variable : ℕ) → Type 0 where
  no_gate : (v : ℕ) → v ≤ inputs → IsGrounded inputs gates v
  on_grounded : (v : ℕ) (g : Gate) → inputs < v → gate_of inputs gates v ≡ Some g → IsGrounded inputs gates (g.left / 2)
      → IsGrounded inputs gates (g.right / 2) → IsGrounded inputs gates v

-- ---- the order

-- the gates that are placed, with operands in the variables of this order; and the number of each gate's variable among these: 0 where
-- it is not placed
pub record Ordered : Type 0 where
  pub numbers : List ℕ
  pub gates : List Gate

-- no gate is placed
abbrev pub unplaced : (inputs count : ℕ) → Ordered
unplaced inputs count = record { numbers = replicate (inputs + 1 + count) 0; gates = [] }

-- whether the variable is a gate that is not placed
abbrev pub is_open : (inputs : ℕ) → Ordered → (variable : ℕ) → Bool
is_open inputs p variable = nat_lt inputs variable && slice_index p.numbers variable == 0

-- the number of a variable: the constant and the inputs keep theirs
abbrev pub number : (inputs : ℕ) → Ordered → (variable : ℕ) → ℕ
number inputs p variable = if nat_lt inputs variable then slice_index p.numbers variable else variable

abbrev pub renumbered : (inputs : ℕ) → Ordered → (literal : ℕ) → ℕ
renumbered inputs p literal = 2 * number inputs p (literal / 2) + literal % 2

abbrev pub renumbered_gate : (inputs : ℕ) → Ordered → Gate → Gate
renumbered_gate inputs p g = record { left = renumbered inputs p g.left; right = renumbered inputs p g.right }

-- the gate of a variable, behind those that are placed
abbrev pub put : (inputs : ℕ) → Ordered → (variable : ℕ) → Gate → Ordered
put inputs p variable g = record {
  numbers = slice_set p.numbers variable (inputs + 1 + length p.gates);
  gates = p.gates ++ renumbered_gate inputs p g ∷ [];
}

-- a variable is placed: one that is not open is there; else its left operand's variable is placed, then the right one's, and then
-- the gate, which is still open, is put behind
pub data Places (inputs : ℕ) (gates : List Gate) : (before : Ordered) → (variable : ℕ) → (after : Ordered) → Type 0 where
  already : (p : Ordered) (v : ℕ) → is_open inputs p v ≡ false → Places inputs gates p v p
  with_operands : (p q r : Ordered) (v : ℕ) (g : Gate) → is_open inputs p v ≡ true → gate_of inputs gates v ≡ Some g
      → Places inputs gates p (g.left / 2) q → Places inputs gates q (g.right / 2) r → is_open inputs r v ≡ true
      → Places inputs gates p v (put inputs r v g)

-- the first gates are placed, so many, one after the other
pub data ArePlaced (inputs : ℕ) (gates : List Gate) : (count : ℕ) → Ordered → Type 0 where
  none_placed : ArePlaced inputs gates 0 (unplaced inputs (length gates))
  one_more : (k : ℕ) (p q : Ordered) → ArePlaced inputs gates k p → Places inputs gates p (inputs + 1 + k) q
      → ArePlaced inputs gates (suc k) q

-- gate k is the first that stands on one that stands on itself
pub record IsFirstOnItself (inputs : ℕ) (gates : List Gate) (k : ℕ) : Type 0 where
  pub within : k < length gates
  pub before : (j : ℕ) → j < k → IsGrounded inputs gates (inputs + 1 + j)
  pub on_itself : IsGrounded inputs gates (inputs + 1 + k) → ⊥

-- ---- what is true of gates that are placed

-- gate g, of this variable, is one of them, and so are its operands
pub record IsAmong (inputs : ℕ) (p : Ordered) (variable : ℕ) (g : Gate) : Type 0 where
  pub position : ℕ
  pub number : slice_index p.numbers variable ≡ inputs + 1 + position
  pub there : slice_get p.gates position ≡ Some (renumbered_gate inputs p g)
  pub left : is_open inputs p (g.left / 2) ≡ false
  pub right : is_open inputs p (g.right / 2) ≡ false

pub record IsSound (inputs : ℕ) (gates : List Gate) (p : Ordered) : Type 0 where
  pub size : length p.numbers ≡ inputs + 1 + length gates
  pub up_to : IsUpTo (inputs + length p.gates) p.numbers
  pub left : (j : ℕ) (g : Gate) → slice_get p.gates j ≡ Some g → g.left < 2 * (inputs + 1 + j)
  pub right : (j : ℕ) (g : Gate) → slice_get p.gates j ≡ Some g → g.right < 2 * (inputs + 1 + j)
  pub each : (v : ℕ) (g : Gate) → inputs < v → gate_of inputs gates v ≡ Some g → is_open inputs p v ≡ false → IsAmong inputs p v g

-- ---- what the code keeps

abbrev pub ordered : Order → Ordered
ordered order = record { numbers = order.numbers.items; gates = order.gates.items }

-- the first operand that is a gate that is not placed, by its variable
abbrev pub open_operand : (inputs : ℕ) → Ordered → Gate → Option ℕ
open_operand inputs p g =
    if is_open inputs p (g.left / 2) then Some (g.left / 2) else if is_open inputs p (g.right / 2) then Some (g.right / 2) else None

-- the gates that were seen are those that are placed, and none is being placed
pub record IsResting (inputs : ℕ) (gates : List Gate) (walk : Walk) : Type 0 where
  pub sound : IsSound inputs gates (ordered walk.order)
  pub size : length walk.seen.items ≡ length gates
  pub seen : (v : ℕ) → inputs < v → slice_index_or walk.seen.items (v - (inputs + 1)) false ≡ true
      → is_open inputs (ordered walk.order) v ≡ false
  pub count : count_by not walk.seen.items + length walk.order.gates.items ≡ length gates
  pub path : walk.path.items ≡ []

-- what is done with the last gate of the path, once it is taken from there: it is placed; or it is put back, and an operand behind it
-- that is not placed; or this operand was seen
pub data Visits (inputs : ℕ) (gates : List Gate) (last : ℕ) (before after : Walk) (goes_on : Bool) : Type 0 where
  placing : (g : Gate) → gate_of inputs gates last ≡ Some g → open_operand inputs (ordered before.order) g ≡ None
      → ordered after.order ≡ put inputs (ordered before.order) last g → after.seen.items ≡ before.seen.items
      → after.path.items ≡ before.path.items → goes_on ≡ true → Visits inputs gates last before after goes_on
  descending : (g : Gate) (below : ℕ) → gate_of inputs gates last ≡ Some g
      → open_operand inputs (ordered before.order) g ≡ Some below
      → slice_index_or before.seen.items (below - (inputs + 1)) false ≡ false → ordered after.order ≡ ordered before.order
      → after.seen.items ≡ slice_set before.seen.items (below - (inputs + 1)) true
      → after.path.items ≡ (before.path.items ++ last ∷ []) ++ below ∷ [] → goes_on ≡ true
      → Visits inputs gates last before after goes_on
  turning : (g : Gate) (below : ℕ) → gate_of inputs gates last ≡ Some g
      → open_operand inputs (ordered before.order) g ≡ Some below
      → slice_index_or before.seen.items (below - (inputs + 1)) false ≡ true → goes_on ≡ false
      → Visits inputs gates last before after goes_on

-- what placing all of them gives
abbrev pub IsPlacing : (inputs : ℕ) → List Gate → Placing → Type 0
IsPlacing inputs gates (Placed order) = ArePlaced inputs gates (length gates) (ordered order)
IsPlacing inputs gates (OnItself k) = IsFirstOnItself inputs gates k
