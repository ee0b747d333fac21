-- What interp is to do: the words that ask for a job, what is due for it, and the jobs of a pool that find it.
use Rattle.std.specs.Prelude.{◌≡◌, ◌≢◌, ◌≤◌, [], not, ℕ, List, codes}
use Rattle.lattice.specs.declared.kind.Mode.TheVariants.{Check}
use Rattle.clap.specs.Words.{fault_of, matches_of}
use Rattle.cli_words.specs.CommandLine.{IsJob, interp_command}
use Rattle.cli_words.specs.declared.job.Job.{Job}
use Rattle.program.specs.Duties.{Duty}
use Rattle.pla_reader.specs.declared.reading.TheConstants.{MOST_BYTES}
use Rattle.interp_run.specs.Due.{InterpDue, IsDue, is_gen, least_jobs}
use Rattle.interp_run.specs.Ends.{end_way}
use Rattle.interp_run.specs.declared.ends.OwnEnd.{OwnEnd}

-- the declared command refuses the words
abbrev pub IsRefused : List (List ℕ) → Type 0
IsRefused words = fault_of interp_command words ≢ []

-- the declared command takes the words, and they ask for this job
abbrev pub IsAsked : List (List ℕ) → Job → Type 0
IsAsked words job = (fault_of interp_command words ≡ []) × IsJob (matches_of interp_command words) job

abbrev pub interp_usage : List ℕ
interp_usage = codes "usage: interp MODE [--workers N] [--nodes B] [--terms T] [--seed S] [--order NAMES]"

-- a job of mode gen reads nothing
abbrev pub interp_duty : Duty Job OwnEnd
interp_duty = record {
  name = codes "interp";
  usage = interp_usage;
  way = end_way;
  limit = MOST_BYTES;
  IsAsked = IsAsked;
  IsRefused = IsRefused;
  WordsTakeMemory = Unit {0};
  reads = λ job. not (is_gen job.mode);
  IsDue = IsDue;
}

-- a pool that answered so many jobs answered those that find what is due, where the mode asks it for any
pub record HasJobs (count : ℕ) (job : Job) (due : InterpDue) : Type 0 where
  pub enough : job.mode ≢ Check → least_jobs job.mode due.notes ≤ count
