-- What is due for the words of a batch and a stream.
use Rattle.std.specs.Prelude.{◌≡◌, ◌⊎◌, [], ℕ, List, true, codes}
use Rattle.lattice.specs.declared.kind.Mode.{Mode}
use Rattle.lattice.specs.declared.kind.Mode.TheVariants.{Anf, Basis}
use Rattle.cli_words.specs.declared.job.Job.{Job}
use Rattle.file_stream.specs.Files.{files_of}
use Rattle.file_relay.specs.declared.reader.TheConstants.{MOST_STREAM}
use Rattle.file_batch.specs.Blocks.{AreBlocks}
use Rattle.program.specs.Duties.{Due, Duty, IsDueFor, done}
use Rattle.program.specs.Outcomes.{status_of}
use Rattle.program.specs.declared.outcome.NoEnd.{NoEnd}
use Rattle.interp_run.specs.Duty.{interp_duty}
use Rattle.interp_run.specs.declared.ends.OwnEnd.{OwnEnd}

-- what `interp` answers to a file alone: the status, and the texts of the outputs
pub record IsAnsweredAlone (job : Job) (file : List ℕ) (status : ℕ) (pages : List (List ℕ)) : Type 0 where
  pub due : Due OwnEnd
  pub is_due : IsDueFor interp_duty job file due
  pub status_is : status ≡ status_of interp_duty.way due.outcome
  pub pages_are : pages ≡ due.pages

-- the modes in which files are answered
abbrev pub Solves : Mode → Type 0
Solves mode = (mode ≡ Anf) ⊎ (mode ≡ Basis)

-- the words, which are those of `interp`, ask for such a job
pub record IsAsked (words : List (List ℕ)) (job : Job) : Type 0 where
  pub asked : interp_duty.IsAsked words job
  pub solves : Solves job.mode

-- they are refused, or ask for a job in another mode
abbrev pub IsRefused : List (List ℕ) → Type 0
IsRefused words = interp_duty.IsRefused words ⊎ ((job : Job) × interp_duty.IsAsked words job × ¬ Solves job.mode)

-- what is due for a stream: the blocks of its files, in order
pub data IsDue (job : Job) (stream : List ℕ) : Due NoEnd → Type 0 where
  blocks : (text : List ℕ) → AreBlocks (IsAnsweredAlone job) 1 (files_of stream) text → IsDue job stream (done text)

abbrev pub batch_duty : Duty Job NoEnd
batch_duty = record {
  name = codes "batch";
  usage = codes "usage: batch anf|basis [--workers N] [--nodes B] [--terms T] [--order NAMES]";
  way = λ _. record { status = 1; message = [] };
  limit = MOST_STREAM;
  IsAsked = IsAsked;
  IsRefused = IsRefused;
  WordsTakeMemory = Unit {0};
  reads = λ _. true;
  IsDue = IsDue;
}
