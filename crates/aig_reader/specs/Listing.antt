-- What the lines of the ASCII form say as they are written: in the variables of the file, and in any order.
use Rattle.std.specs.Prelude.{◌≡◌, ℕ, ◌+◌, ◌-◌, ◌*◌, ◌^◌, Bool, false, not, ◌&&◌, List, length, Some, Ok, Result, slice_get}
use Rattle.lattice.specs.Family.{divides}
use Rattle.aig_reader.specs.declared.refusal.Fault.{Fault}
use Rattle.aig_reader.specs.Fields.{◌>>=◌, behind, literal_at, output_at, many}
use Rattle.aig_reader.specs.Reading.{sizes_at}

-- the line of a gate: its own literal, and those of its operands
pub record Line : Type 0 where
  pub own : ℕ
  pub left : ℕ
  pub right : ℕ

-- the literals of the inputs, those of the outputs, and the gates
pub record Listing : Type 0 where
  pub inputs : List ℕ
  pub outputs : List ℕ
  pub gates : List Line

unfoldable pub line_at : (variables : ℕ) → List ℕ → Result (Line × List ℕ) Fault
line_at variables bytes = do
  own ← literal_at variables bytes
  front ← behind 32 own.1
  left ← literal_at variables front
  middle ← behind 32 left.1
  right ← literal_at variables middle
  rest ← behind 10 right.1
  Ok (record { own = own.0; left = left.0; right = right.0 }, rest)

-- the listing of a file in the ASCII form, behind the word that begins it
unfoldable pub listing_at : List ℕ → Result Listing Fault
listing_at bytes = do
  header ← sizes_at bytes
  inputs ← many (λ k. output_at header.0.variables) 0 header.0.inputs header.1
  outputs ← many (λ k. output_at header.0.variables) 0 header.0.outputs inputs.1
  gates ← many (λ k. line_at header.0.variables) 0 header.0.gates outputs.1
  Ok (record { inputs = inputs.0; outputs = outputs.0; gates = gates.0 })

-- the value of a literal at a point, in which input k of n, counted from 0, has the weight 2 ^ (n - (k + 1))
pub data IsListed (l : Listing) (point : ℕ) : (literal : ℕ) → Bool → Type 0 where
  constant : IsListed l point 0 false
  input : (k literal : ℕ) → slice_get l.inputs k ≡ Some literal
      → IsListed l point literal (divides (2 ^ (length l.inputs - (k + 1))) point)
  gate : (k : ℕ) (line : Line) (x y : Bool) → slice_get l.gates k ≡ Some line → IsListed l point line.left x
      → IsListed l point line.right y → IsListed l point line.own (x && y)
  complement : (v : ℕ) (x : Bool) → IsListed l point (2 * v) x → IsListed l point (2 * v + 1) (not x)
