-- The names of inputs that are inverted.
use Rattle.std.specs.Prelude.{◌≢◌, ℕ, ◌-◌, ◌≤◌, Bool, List, [], ◌++◌, length, map, codes, if◌then◌else◌}
use Rattle.std.specs.List.{All, AllPairs, slice_index_or}
use Rattle.lattice.specs.Family.{has}
use Rattle.pla_reader.specs.Orders.{file_order, order_named}
use Rattle.aig_inputs.specs.Arranged.{is_inverted}

-- ---- the inputs that a text names

-- positions of some of n inputs, each of which stands once
pub record AreInputs (n : ℕ) (positions : List ℕ) : Type 0 where
  pub known : All (λ position. position ≤ n) positions
  pub once : AllPairs (λ i j. i ≢ j) positions

-- for each of the names whether a text has it between its commas
unfoldable pub inverted_named : (names : List (List ℕ)) → (text : List ℕ) → List Bool
inverted_named names text = map (has (order_named names text)) (file_order (length names))

-- ---- names with marks

-- the name, behind a mark where it is inverted
abbrev pub marked_name : (inverted : Bool) → List ℕ → List ℕ
marked_name inverted name = if inverted then codes "~" ++ name else name

-- the names in the order, those that are inverted behind a mark
unfoldable pub marked_names : (order : List ℕ) → (inverted : List Bool) → (names : List (List ℕ)) → List (List ℕ)
marked_names order inverted names =
    map (λ position. marked_name (is_inverted inverted position) (slice_index_or names (position - 1) [])) order
