-- A circuit over the names of another one.
use Rattle.std.specs.Prelude.{◌≡◌, ℕ, ◌-◌, false, List, length, map, codes, replicate, Result, Ok, Err}
use Rattle.std.specs.List.{slice_index_or}
use Rattle.pla_reader.specs.Orders.{IsOrder, names_in_order}
use Rattle.pla_reader.specs.PrintedNames.{printed_names}
use Rattle.aig_reader.specs.declared.circuit.Aig.{Aig}
use Rattle.aig_reader.specs.Circuit.{Circuit}
use Rattle.aig_reader.specs.Reading.{circuit}
use Rattle.aig_inputs.specs.Arranged.{arranged}
use Rattle.aig_pairs.specs.declared.matching.MatchRefusal.{MatchRefusal}
use Rattle.aig_pairs.specs.declared.matching.MatchRefusal.TheVariants.{Inputs, Memory, Outputs}

-- ---- names

-- the names that are printed
abbrev pub input_names : Circuit → List (List ℕ)
input_names c = printed_names (codes "x") c.inputs c.in_names

abbrev pub output_names : Circuit → List (List ℕ)
output_names c = printed_names (codes "f") (length c.outputs) c.out_names

-- in this order the names are the wanted ones
pub record PutsInOrder (names wanted : List (List ℕ)) (order : List ℕ) : Type 0 where
  pub positions : IsOrder (length names) order
  pub named : names_in_order order names ≡ wanted

-- by these orders the names of the second circuit's inputs and outputs are those of the first one's
abbrev pub OrdersInputs : (first second : Circuit) → (order : List ℕ) → Type 0
OrdersInputs first second = PutsInOrder (input_names second) (input_names first)

abbrev pub OrdersOutputs : (first second : Circuit) → (order : List ℕ) → Type 0
OrdersOutputs first second = PutsInOrder (output_names second) (output_names first)

-- ---- circuits

-- the circuit whose outputs, and their names, stand in an order
abbrev pub in_output_order : Circuit → (order : List ℕ) → Circuit
in_output_order c order = record c {
  outputs = map (λ position. slice_index_or c.outputs (position - 1) 0) order;
  out_names = names_in_order order c.out_names;
}

-- the circuit whose inputs and outputs stand in orders
abbrev pub rearranged : Circuit → (inputs outputs : List ℕ) → Circuit
rearranged c inputs outputs = in_output_order (arranged c inputs (replicate c.inputs false)) outputs

-- the second circuit over the names of the first one, or why there is none: the names of the inputs are in no order those of the
-- first one's; else those of the outputs are not
pub data Matches (first second : Circuit) (matched : Result Circuit MatchRefusal) : Type 0 where
  same_names : (inputs outputs : List ℕ) → OrdersInputs first second inputs → OrdersOutputs first second outputs
      → matched ≡ Ok (rearranged second inputs outputs) → Matches first second matched
  other_inputs : ((inputs : List ℕ) → OrdersInputs first second inputs → ⊥) → matched ≡ Err Inputs → Matches first second matched
  other_outputs : (inputs : List ℕ) → OrdersInputs first second inputs
      → ((outputs : List ℕ) → OrdersOutputs first second outputs → ⊥) → matched ≡ Err Outputs → Matches first second matched

-- an answer gives the match, unless memory ran out
abbrev pub GivesMatch : Result Aig MatchRefusal → (Result Circuit MatchRefusal → Type 0) → Type 0
GivesMatch (Ok aig) IsMatch = IsMatch (Ok (circuit aig))
GivesMatch (Err Inputs) IsMatch = IsMatch (Err Inputs)
GivesMatch (Err Outputs) IsMatch = IsMatch (Err Outputs)
GivesMatch (Err Memory) IsMatch = Unit {0}
