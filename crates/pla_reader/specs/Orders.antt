-- Orders of the inputs, and descriptions whose inputs are arranged by one.
use Rattle.std.specs.Prelude.{◌≡◌, ◌≢◌, ℕ, ◌+◌, ◌-◌, ◌^◌, ◌≤◌, ◌==◌, ◌&&◌, Bool, true, not, nat_le, List, [], ◌∷◌, length, map, codes}
use Rattle.std.specs.List.{All, AllPairs, list_all, position_or_len, slice_index_or, slice_split}
use Rattle.std.specs.Str.{bytes_eq}
use Rattle.lattice.specs.Family.{divides, has, numbers_below}
use Rattle.lattice.specs.declared.row.Row.{Row}
use Rattle.pla_reader.specs.PrintedNames.{printed_names}
use Rattle.pla_reader.specs.Reading.{Description, input_mask}

-- ---- orders

-- the positions 1 to n, each once: n of them, no two the same. The first is that of the greatest variable
pub record IsOrder (n : ℕ) (order : List ℕ) : Type 0 where
  pub count : length order ≡ n
  pub positions : All (λ position. (1 ≤ position) × (position ≤ n)) order
  pub distinct : AllPairs (λ i j. i ≢ j) order

-- whether no number stands in a list twice
abbrev pub is_once : List ℕ → Bool
is_once [] = true
is_once (i ∷ order) = not (has order i) && is_once order

-- whether a list is an order, as a test
unfoldable pub is_order : ℕ → List ℕ → Bool
is_order n order = length order == n && (list_all (λ position. nat_le 1 position && nat_le position n) order && is_once order)

-- the order of the file: 1, 2 and so on
unfoldable pub file_order : ℕ → List ℕ
file_order inputs = map (λ i. i + 1) (numbers_below inputs)

-- the position of the input of this name; where no input has it, one more than there are inputs
unfoldable pub position_named : (names : List (List ℕ)) → List ℕ → ℕ
position_named names name = position_or_len (λ other. bytes_eq other name) names + 1

-- the names between the commas of a text
abbrev pub names_between : (text : List ℕ) → List (List ℕ)
names_between text = slice_split (λ byte. byte == 44) text

-- the positions of the inputs of these names
unfoldable pub order_named : (names : List (List ℕ)) → (text : List ℕ) → List ℕ
order_named names text = map (position_named names) (names_between text)

-- ---- arranged descriptions

-- the names of the inputs, in the order
unfoldable pub names_in_order : (order : List ℕ) → (names : List (List ℕ)) → List (List ℕ)
names_in_order order names = map (λ position. slice_index_or names (position - 1) []) order

-- the variables whose inputs have their bit in a mask. Of n inputs, input j has the weight 2 ^ (n - j) in the mask; variable i is
-- the input at the order's i-th position, and has the weight 2 ^ (n - i) in the arranged mask
unfoldable pub arranged_mask : (inputs : ℕ) → (order : List ℕ) → ℕ → ℕ
arranged_mask inputs order mask = input_mask (λ position. divides (2 ^ (inputs - position)) mask) order

-- the row over the variables
abbrev pub arranged_row : (inputs : ℕ) → (order : List ℕ) → Row → Row
arranged_row inputs order r =
    record r { care = arranged_mask inputs order r.care; value = arranged_mask inputs order r.value }

-- the description over the variables, whose names are the printed ones: all else is the same
abbrev pub arranged : Description → (order : List ℕ) → Description
arranged d order = record d {
  rows = map (arranged_row d.inputs order) d.rows;
  in_names = names_in_order order (printed_names (codes "x") d.inputs d.in_names);
}
