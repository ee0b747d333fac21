-- A circuit over its inputs in another order, some of them complemented: variable i is the input at the order's i-th position, or its
-- complement where the input is inverted.
use Rattle.std.specs.Prelude.{ℕ, ◌+◌, ◌-◌, ◌*◌, ◌/◌, ◌%◌, ◌^◌, Bool, false, ◌&&◌, ◌==◌, nat_le, List, length, map, if◌then◌else◌}
use Rattle.std.specs.List.{position_or_len, slice_index_or}
use Rattle.lattice.specs.Family.{divides, exactly_one}
use Rattle.pla_reader.specs.Orders.{file_order, names_in_order}
use Rattle.pla_reader.specs.Reading.{input_mask}
use Rattle.aig_reader.specs.declared.circuit.Gate.{Gate}
use Rattle.aig_reader.specs.Circuit.{Circuit}

-- whether the input at a position, from 1, is inverted
abbrev pub is_inverted : (inverted : List Bool) → (position : ℕ) → Bool
is_inverted inverted position = slice_index_or inverted (position - 1) false

-- the variable of the input at a position: the place, from 1, at which the order has the position
unfoldable pub variable_of : (order : List ℕ) → (position : ℕ) → ℕ
variable_of order position = position_or_len (λ other. other == position) order + 1

-- ---- circuits

-- the literal over the variables: that of an input is one of its variable, whose low bit is flipped where the input is inverted
unfoldable pub arranged_literal : (order : List ℕ) → (inverted : List Bool) → (literal : ℕ) → ℕ
arranged_literal order inverted literal = let position = literal / 2 in
    if nat_le 1 position && nat_le position (length order)
    then 2 * variable_of order position + (if exactly_one (is_inverted inverted position) (literal % 2 == 1) then 1 else 0)
    else literal

-- the gate over the variables
abbrev pub arranged_gate : (order : List ℕ) → (inverted : List Bool) → Gate → Gate
arranged_gate order inverted gate =
    record { left = arranged_literal order inverted gate.left; right = arranged_literal order inverted gate.right }

-- the circuit over the variables, whose names are those of their inputs: all else is the same
abbrev pub arranged : Circuit → (order : List ℕ) → (inverted : List Bool) → Circuit
arranged c order inverted = record c {
  gates = map (arranged_gate order inverted) c.gates;
  outputs = map (arranged_literal order inverted) c.outputs;
  in_names = names_in_order order c.in_names;
}

-- ---- points

-- the point over the inputs of the file: each has the bit of its variable, or the other bit where it is inverted. Of n inputs, the one
-- at position j has the weight 2 ^ (n - j), and of n variables, variable i has the weight 2 ^ (n - i)
unfoldable pub file_point : (n : ℕ) → (order : List ℕ) → (inverted : List Bool) → (point : ℕ) → ℕ
file_point n order inverted point =
    input_mask (λ position. exactly_one (is_inverted inverted position) (divides (2 ^ (n - variable_of order position)) point))
    (file_order n)
