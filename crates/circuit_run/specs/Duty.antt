-- What circuit is to do: the words that ask for a job, and what is due for it.
use Rattle.std.specs.Prelude.{ℕ, List, Option, [], codes, true}
use Rattle.aig_reader.specs.declared.reading.TheConstants.{MOST_BYTES}
use Rattle.circuit_words.specs.CommandLine.{IsAsked, IsRefused}
use Rattle.circuit_words.specs.declared.job.CircuitJob.{CircuitJob}
use Rattle.program.specs.Duties.{Duty}
use Rattle.program.specs.Runs.{Ran}
use Rattle.program.specs.declared.outcome.Outcome.{Outcome}
use Rattle.circuit_run.specs.Due.{IsDue}
use Rattle.circuit_run.specs.Ends.{end_way}
use Rattle.circuit_run.specs.declared.ends.CircuitEnd.{CircuitEnd}

abbrev pub circuit_usage : List ℕ
circuit_usage = codes "usage: circuit anf|basis|count|equal [--nodes B] [--terms T] [--order NAMES] [--care NAME] [--invert NAMES]"

abbrev pub circuit_duty : Duty CircuitJob CircuitEnd
circuit_duty = record {
  name = codes "circuit";
  usage = circuit_usage;
  way = end_way;
  limit = MOST_BYTES;
  IsAsked = IsAsked;
  IsRefused = IsRefused;
  WordsTakeMemory = Unit {0};
  reads = λ _. true;
  IsDue = IsDue;
}

-- a run ends so on some bytes, and has no watchers
abbrev pub CircuitRan : (words : List (List ℕ)) → (left old new : Option (List ℕ)) → Outcome CircuitEnd → Type 0
CircuitRan words left old new o = Ran circuit_duty (λ job due. Unit {0}) words left old new [] [] o
