-- Circuits of gates that are 1 where both operands are 1, and the values of their literals.
use Rattle.std.specs.Prelude.{◌≡◌, ℕ, ◌+◌, ◌-◌, ◌*◌, ◌^◌, ◌<◌, ◌≤◌, Bool, false, not, ◌&&◌, List, length, Some, slice_get}
use Rattle.std.specs.List.{All}
use Rattle.lattice.specs.Family.{divides}
use Rattle.lattice.specs.declared.limits.TheConstants.{MAX_VARS}
use Rattle.aig_reader.specs.declared.circuit.TheConstants.{MAX_GATES, MAX_OUTPUTS}
use Rattle.aig_reader.specs.declared.circuit.Gate.{Gate}

-- Variable 0 is constant, variables 1 to n are the inputs, and those behind them the gates, in order. Literal 2 v is variable v, and
-- literal 2 v + 1 is its complement. An input or output that has no name has the empty one
pub record Circuit : Type 0 where
  pub inputs : ℕ
  pub gates : List Gate
  pub outputs : List ℕ
  pub in_names : List (List ℕ)
  pub out_names : List (List ℕ)

-- the value of a literal at a point, in which input v of n has the weight 2 ^ (n - v)
pub data HasValue (c : Circuit) (point : ℕ) : (literal : ℕ) → Bool → Type 0 where
  constant : HasValue c point 0 false
  input : (v : ℕ) → 1 ≤ v → v ≤ c.inputs → HasValue c point (2 * v) (divides (2 ^ (c.inputs - v)) point)
  gate : (k : ℕ) (g : Gate) (x y : Bool) → slice_get c.gates k ≡ Some g
      → HasValue c point g.left x → HasValue c point g.right y → HasValue c point (2 * (c.inputs + 1 + k)) (x && y)
  complement : (v : ℕ) (x : Bool) → HasValue c point (2 * v) x → HasValue c point (2 * v + 1) (not x)

-- each gate stands on what is before it, each output is one of the literals, and there are as many names as inputs and outputs
pub record IsCircuit (inputs : ℕ) (gates : List Gate) (outputs : List ℕ) (in_names out_names : List (List ℕ)) : Type 0 where
  pub few_inputs : inputs ≤ MAX_VARS
  pub few_gates : length gates ≤ MAX_GATES
  pub few_outputs : length outputs ≤ MAX_OUTPUTS
  pub left : (k : ℕ) (g : Gate) → slice_get gates k ≡ Some g → g.left < 2 * (inputs + 1 + k)
  pub right : (k : ℕ) (g : Gate) → slice_get gates k ≡ Some g → g.right < 2 * (inputs + 1 + k)
  pub literals : All (λ literal. literal < 2 * (inputs + 1 + length gates)) outputs
  pub in_count : length in_names ≡ inputs
  pub out_count : length out_names ≡ length outputs
