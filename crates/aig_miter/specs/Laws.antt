-- Laws of miters. The functions of src/laws.rt have them as their contracts.
use Rattle.std.specs.Prelude.{◌≡◌, ℕ, ◌≤◌, ◌<◌, ◌↔◌, Bool, true, false, Option, length, slice_index}
use Rattle.lattice.specs.Family.{exactly_one}
use Rattle.aig_reader.specs.declared.circuit.TheConstants.{MAX_GATES}
use Rattle.aig_reader.specs.Circuit.{Circuit, HasValue, IsCircuit}
use Rattle.aig_miter.specs.Miter.{is_care, miter}

-- two circuits over the same inputs, with as many outputs
pub record AreAlike (c d : Circuit) : Type 0 where
  pub first : IsCircuit c.inputs c.gates c.outputs c.in_names c.out_names
  pub second : IsCircuit d.inputs d.gates d.outputs d.in_names d.out_names
  pub inputs : d.inputs ≡ c.inputs
  pub outputs : length d.outputs ≡ length c.outputs

-- two circuits' outputs at a position have values at a point, and z says whether exactly one of these is 1
pub record HasDifference (c d : Circuit) (point i : ℕ) (z : Bool) : Type 0 where
  pub x : Bool
  pub y : Bool
  pub first : HasValue c point (slice_index c.outputs i) x
  pub second : HasValue d point (slice_index d.outputs i) y
  pub is : z ≡ exactly_one x y

-- An output of the miter is 1 where exactly one of the circuits' outputs at its position is.
abbrev pub MiterValues : Type 0
MiterValues = (c d : Circuit) (care : Option ℕ) (point i : ℕ) (z : Bool) → AreAlike c d → i < length c.outputs → is_care care i ≡ false
    → HasValue (miter c d care) point (slice_index (miter c d care).outputs i) z ↔ HasDifference c d point i z

-- The care output has in the miter the value that it has in the first circuit.
abbrev pub CareOutputStays : Type 0
CareOutputStays = (c d : Circuit) (care : Option ℕ) (point i : ℕ) (x : Bool) → AreAlike c d → i < length c.outputs → is_care care i ≡ true
    → HasValue (miter c d care) point (slice_index (miter c d care).outputs i) x ↔ HasValue c point (slice_index c.outputs i) x

-- The miter of circuits is a circuit, where it has no more gates than a circuit may have.
abbrev pub MiterIsCircuit : Type 0
MiterIsCircuit = (c d : Circuit) (care : Option ℕ) → AreAlike c d → length (miter c d care).gates ≤ MAX_GATES
    → IsCircuit (miter c d care).inputs (miter c d care).gates (miter c d care).outputs (miter c d care).in_names (miter c d care).out_names
