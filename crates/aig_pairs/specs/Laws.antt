-- Laws of two circuits. The functions of src/laws.rt have them as their contracts.
use Rattle.std.specs.Prelude.{◌≡◌, ℕ, ◌↔◌, Bool, false, List, Result, Ok, Some, replicate, slice_get}
use Rattle.aig_reader.specs.Circuit.{Circuit, HasValue, IsCircuit}
use Rattle.aig_inputs.specs.Arranged.{file_point}
use Rattle.aig_pairs.specs.Pairs.{ReadsPair}
use Rattle.aig_pairs.specs.Matching.{Matches, OrdersInputs, output_names}
use Rattle.aig_pairs.specs.declared.matching.MatchRefusal.{MatchRefusal}
use Rattle.aig_pairs.specs.declared.pairs.PairRefusal.{PairRefusal}

-- Bytes are read as one pair at most, or refused for one cause.
abbrev pub OnePair : Type 0
OnePair = (bytes : List ℕ) (a b : Result (Circuit × Circuit) PairRefusal) → ReadsPair bytes a → ReadsPair bytes b → a ≡ b

-- what is true of every circuit that was read
abbrev pub IsSound : Circuit → Type 0
IsSound c = IsCircuit c.inputs c.gates c.outputs c.in_names c.out_names

-- Two circuits are matched in one way at most, or for one cause in none.
abbrev pub OneMatch : Type 0
OneMatch = (first second : Circuit) (a b : Result Circuit MatchRefusal) → IsSound first → IsSound second
    → Matches first second a → Matches first second b → a ≡ b

-- At each point, the output of the matched circuit at the place of a printed name of the first one's has the value that the second
-- circuit's output of this name has at the point that gives each of its inputs the bit of the input of the same name.
abbrev pub MatchedValues : Type 0
MatchedValues = (first second matched : Circuit) (order name : List ℕ) (point j k literal own : ℕ) (x : Bool)
    → IsSound first → IsSound second → Matches first second (Ok matched) → OrdersInputs first second order
    → slice_get (output_names first) j ≡ Some name → slice_get matched.outputs j ≡ Some own
    → slice_get (output_names second) k ≡ Some name → slice_get second.outputs k ≡ Some literal
    → HasValue second (file_point second.inputs order (replicate second.inputs false) point) literal x ↔ HasValue matched point own x

-- A circuit that is matched with itself stays as it is.
abbrev pub MatchedWithItself : Type 0
MatchedWithItself = (c : Circuit) → IsSound c → Matches c c (Ok c)
