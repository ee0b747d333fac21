-- Laws of orders. The functions of src/laws.rt have them as their contracts.
use Rattle.std.specs.Prelude.{◌≡◌, ℕ, ◌-◌, ◌<◌, ◌↔◌, true, List, length, slice_index, codes}
use Rattle.std.specs.Int.{bit_at}
use Rattle.pla_reader.specs.declared.pla.Pla.{Pla}
use Rattle.pla_reader.specs.PrintedNames.{printed_names, input_names}
use Rattle.pla_reader.specs.Reading.{description}
use Rattle.pla_reader.specs.Orders.{IsOrder, arranged, arranged_mask, file_order, is_order, names_between, names_in_order, order_named}

-- A list is an order exactly where the test says so.
abbrev pub OrdersByTest : Type 0
OrdersByTest = (n : ℕ) (order : List ℕ) → (is_order n order ≡ true) ↔ IsOrder n order

-- In an arranged mask, variable i has the bit that the input at the order's i-th position has in the mask; here i begins with 0.
abbrev pub ArrangedBits : Type 0
ArrangedBits = (n : ℕ) (order : List ℕ) (mask i : ℕ) → i < length order
    → bit_at (arranged_mask n order mask) (length order - 1 - i) ≡ bit_at mask (n - slice_index order i)

-- By the order of the file the rows stay as they are, and the names of the inputs are the printed ones.
abbrev pub FileOrderKeepsRows : Type 0
FileOrderKeepsRows = (p : Pla) → arranged (description p) (file_order p.inputs) ≡ record (description p) { in_names = input_names p }

-- The names of an arranged description are printed as they are.
abbrev pub ArrangedNamesArePrinted : Type 0
ArrangedNamesArePrinted = (p : Pla) (order : List ℕ) → IsOrder p.inputs order
    → printed_names (codes "x") p.inputs (names_in_order order (input_names p)) ≡ names_in_order order (input_names p)

-- A text that has the printed names in an order between its commas asks for this order.
abbrev pub NamesAskForTheirOrder : Type 0
NamesAskForTheirOrder = (p : Pla) (order text : List ℕ) → IsOrder p.inputs order
    → names_between text ≡ names_in_order order (input_names p) → order_named (input_names p) text ≡ order
