-- The miter of two circuits over the same inputs: its outputs are 1 where theirs differ.
use Rattle.std.specs.Prelude.{ℕ, ◌+◌, ◌-◌, ◌*◌, ◌/◌, ◌%◌, ◌==◌, nat_lt, Bool, false, Option, Some, None, List, [], ◌∷◌, ◌++◌}
use Rattle.std.specs.Prelude.{length, map, slice_index, if◌then◌else◌}
use Rattle.std.specs.List.{flat_map}
use Rattle.lattice.specs.Family.{numbers_below}
use Rattle.aig_reader.specs.declared.circuit.Gate.{Gate}
use Rattle.aig_reader.specs.Circuit.{Circuit}

-- ---- gates behind those of another circuit

-- the literal where its circuit's gates stand behind so many others: that of a gate is moved, and any other stays
unfoldable pub moved_literal : (inputs others literal : ℕ) → ℕ
moved_literal inputs others literal = if nat_lt inputs (literal / 2) then literal + 2 * others else literal

abbrev pub moved_gate : (inputs others : ℕ) → Gate → Gate
moved_gate inputs others gate =
    record { left = moved_literal inputs others gate.left; right = moved_literal inputs others gate.right }

-- ---- where two literals differ

-- the complement of a literal
unfoldable pub complement_of : (literal : ℕ) → ℕ
complement_of literal = if literal % 2 == 0 then literal + 1 else literal - 1

-- three gates, the first of which is variable v. It is 1 where both literals are 1, the second where neither is, and the third where
-- both of these are 0: there the literals differ
abbrev pub difference : (v a b : ℕ) → List Gate
difference v a b =
    record { left = a; right = b }
    ∷ record { left = complement_of a; right = complement_of b }
    ∷ record { left = 2 * v + 1; right = 2 * (v + 1) + 1 } ∷ []

-- ---- the miter

-- the variable of the first of the three gates for the outputs at position i, counted from 0
abbrev pub first_variable : Circuit → Circuit → (i : ℕ) → ℕ
first_variable c d i = c.inputs + 1 + length c.gates + length d.gates + 3 * i

-- the three gates
abbrev pub difference_at : Circuit → Circuit → (i : ℕ) → List Gate
difference_at c d i =
    difference (first_variable c d i) (slice_index c.outputs i) (moved_literal c.inputs (length c.gates) (slice_index d.outputs i))

-- whether this is the position of the care output
abbrev pub is_care : (care : Option ℕ) → (i : ℕ) → Bool
is_care None i = false
is_care (Some output) i = output == i

-- the output at position i: the third of the gates, but where the care output stands, which is the first circuit's
abbrev pub miter_output : Circuit → Circuit → (care : Option ℕ) → (i : ℕ) → ℕ
miter_output c d care i = if is_care care i then slice_index c.outputs i else 2 * (first_variable c d i + 2)

-- the first circuit's gates, those of the second behind them, and three for each output
unfoldable pub miter_gates : Circuit → Circuit → List Gate
miter_gates c d =
    c.gates ++ map (moved_gate c.inputs (length c.gates)) d.gates ++ flat_map (difference_at c d) (numbers_below (length c.outputs))

unfoldable pub miter_outputs : Circuit → Circuit → (care : Option ℕ) → List ℕ
miter_outputs c d care = map (miter_output c d care) (numbers_below (length c.outputs))

-- the miter, whose inputs and names are those of the first circuit
abbrev pub miter : Circuit → Circuit → (care : Option ℕ) → Circuit
miter c d care = record c { gates = miter_gates c d; outputs = miter_outputs c d care }
