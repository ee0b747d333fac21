-- What a job sees of a circuit: its inputs in an order, some of them complemented, and which points are cared for.
use Rattle.std.specs.Prelude.{◌==◌, ℕ, List, Bool, false, ◌&&◌, length, nat_le, replicate, if◌then◌else◌, ok_or, option_map}
use Rattle.std.specs.Prelude.{position, Option, Some, None, Result, Ok, Err}
use Rattle.std.specs.List.{list_all}
use Rattle.std.specs.Str.{bytes_eq}
use Rattle.pla_reader.specs.Orders.{file_order, is_once, is_order, order_named}
use Rattle.aig_reader.specs.Circuit.{Circuit}
use Rattle.aig_inputs.specs.Arranged.{arranged}
use Rattle.aig_inputs.specs.Names.{inverted_named, marked_names}
use Rattle.aig_pairs.specs.Matching.{input_names, output_names}
use Rattle.circuit_words.specs.declared.job.CircuitJob.{CircuitJob}
use Rattle.circuit_run.specs.declared.ends.CircuitEnd.{CircuitEnd}
use Rattle.circuit_run.specs.declared.ends.CircuitEnd.TheVariants.{Care, Invert, NoInputs, Order}

-- a circuit, the names of its inputs that are printed, and the position, from 0, of the output that says which points are cared for:
-- those at which it is 1, or all points, where there is none
pub record View : Type 0 where
  pub circuit : Circuit
  pub in_names : List (List ℕ)
  pub care : Option ℕ

-- ---- what the texts of the options say, or how the run ends

infixl 10 ◌>>=◌
abbrev pub ◌>>=◌ : {A B : Type 0} → Result A CircuitEnd → (A → Result B CircuitEnd) → Result B CircuitEnd
(Ok x) >>= f = f x
(Err end) >>= f = Err end

-- the order of the inputs of these names, the greatest variable's first: that of the file without a text
abbrev pub order_by : (names : List (List ℕ)) → Option (List ℕ) → Result (List ℕ) CircuitEnd
order_by names None = Ok (file_order (length names))
order_by names (Some text) =
    let order = order_named names text in if is_order (length names) order then Ok order else Err Order

-- whether these are positions of some of n inputs, each once
abbrev pub are_inputs : (n : ℕ) → List ℕ → Bool
are_inputs n positions = list_all (λ position. nat_le position n) positions && is_once positions

-- for each of the inputs of these names whether it is complemented: none is without a text
abbrev pub inverted_by : (names : List (List ℕ)) → Option (List ℕ) → Result (List Bool) CircuitEnd
inverted_by names None = Ok (replicate (length names) false)
inverted_by names (Some text) =
    if are_inputs (length names) (order_named names text) then Ok (inverted_named names text) else Err Invert

-- the position of the output, of those of these names, that says which points are cared for
abbrev pub care_by : (names : List (List ℕ)) → Option (List ℕ) → Result (Option ℕ) CircuitEnd
care_by names None = Ok None
care_by names (Some text) = ok_or (option_map (λ output. Some output) (position (λ name. bytes_eq name text) names)) Care

-- ---- the view, or how the run ends that has none: the first cause of these

unfoldable pub view_of : CircuitJob → Circuit → Result View CircuitEnd
view_of job c = if c.inputs == 0 then Err NoInputs else (do
  order ← order_by (input_names c) job.order
  inverted ← inverted_by (input_names c) job.invert
  care ← care_by (output_names c) job.care
  Ok (record { circuit = arranged c order inverted; in_names = marked_names order inverted (input_names c); care = care }))
