-- What nfq is to do: the words that ask for a mode, and what is due for it.
use Rattle.std.specs.Prelude.{◌≡◌, ◌∷◌, [], ℕ, List, Option, codes, true}
use Rattle.program.specs.Duties.{Duty}
use Rattle.program.specs.Runs.{Ran}
use Rattle.pla_reader.specs.declared.reading.TheConstants.{MOST_BYTES}
use Rattle.program.specs.declared.outcome.Outcome.{Outcome}
use Rattle.nf_run.specs.Due.{IsDue}
use Rattle.nf_run.specs.Ends.{end_way}
use Rattle.nf_run.specs.declared.ends.QueryEnd.{QueryEnd}
use Rattle.nf_run.specs.declared.joint.Joining.TheVariants.{Meet, Union}
use Rattle.nf_run.specs.declared.mode.QueryMode.{QueryMode}
use Rattle.nf_run.specs.declared.mode.QueryMode.TheVariants.{Join, Reduce}

abbrev pub mode_name : QueryMode → List ℕ
mode_name Reduce = codes "reduce"
mode_name (Join Union) = codes "union"
mode_name (Join Meet) = codes "meet"

-- the words are the program's name and the name of this mode
abbrev pub IsAsked : List (List ℕ) → QueryMode → Type 0
IsAsked words mode = (program : List ℕ) × (words ≡ program ∷ mode_name mode ∷ [])

-- they ask for no mode
abbrev pub IsRefused : List (List ℕ) → Type 0
IsRefused words = (mode : QueryMode) → ¬ IsAsked words mode

abbrev pub query_usage : List ℕ
query_usage = codes "usage: nfq reduce|union|meet"

-- over stores of 2 ^ bits slots
abbrev pub query_duty : ℕ → Duty QueryMode QueryEnd
query_duty bits = record {
  name = codes "nfq";
  usage = query_usage;
  way = end_way;
  limit = MOST_BYTES;
  IsAsked = IsAsked;
  IsRefused = IsRefused;
  WordsTakeMemory = ⊥;
  reads = λ _. true;
  IsDue = λ mode bytes due. IsDue mode bits bytes due;
}

-- a run ends so on some bytes, and has no watchers
abbrev pub QueryRan : ℕ → (words : List (List ℕ)) → (left old new : Option (List ℕ)) → Outcome QueryEnd → Type 0
QueryRan bits words left old new o = Ran (query_duty bits) (λ mode due. Unit {0}) words left old new [] [] o
