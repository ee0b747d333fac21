-- Laws of arranged circuits. The functions of src/laws.rt have them as their contracts.
use Rattle.std.specs.Prelude.{◌≡◌, ℕ, ◌+◌, ◌*◌, ◌^◌, ◌<◌, ◌↔◌, Bool, false, List, length, replicate}
use Rattle.pla_reader.specs.Orders.{IsOrder, file_order}
use Rattle.aig_reader.specs.Circuit.{Circuit, HasValue, IsCircuit}
use Rattle.aig_inputs.specs.Arranged.{arranged, arranged_literal, file_point}

-- A literal of a circuit has at the file's point the value that its arranged literal has at the point in the arranged circuit.
abbrev pub ArrangedValues : Type 0
ArrangedValues = (c : Circuit) (order : List ℕ) (inverted : List Bool) (point literal : ℕ) (x : Bool)
    → IsCircuit c.inputs c.gates c.outputs c.in_names c.out_names → IsOrder c.inputs order
    → literal < 2 * (c.inputs + 1 + length c.gates)
    → HasValue c (file_point c.inputs order inverted point) literal x
    ↔ HasValue (arranged c order inverted) point (arranged_literal order inverted literal) x

-- this point, and no other, has this point of the file
pub record IsOnlyPoint (n : ℕ) (order : List ℕ) (inverted : List Bool) (file point : ℕ) : Type 0 where
  pub below : point < 2 ^ n
  pub is : file_point n order inverted point ≡ file
  pub only : (other : ℕ) → other < 2 ^ n → file_point n order inverted other ≡ file → other ≡ point

-- Each point has a point of the file, and each point of the file is that of exactly one point.
abbrev pub PointsAreArranged : Type 0
PointsAreArranged = (n : ℕ) (order : List ℕ) (inverted : List Bool) → IsOrder n order
    → ((point : ℕ) → file_point n order inverted point < 2 ^ n)
    × ((file : ℕ) → file < 2 ^ n → (point : ℕ) × IsOnlyPoint n order inverted file point)

-- The order of the file without inverted inputs changes nothing.
abbrev pub FileOrderKeepsCircuit : Type 0
FileOrderKeepsCircuit = (c : Circuit) → IsCircuit c.inputs c.gates c.outputs c.in_names c.out_names
    → arranged c (file_order c.inputs) (replicate c.inputs false) ≡ c
