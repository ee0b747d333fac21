-- How a batch ends: what its source lost, and what out gained.
use Rattle.std.specs.Prelude.{◌≡◌, ℕ, List, Option}
use Rattle.std.specs.Io.KnownBytes.{Keeps}
use Rattle.cli_words.specs.declared.job.Job.{Job}
use Rattle.file_relay.specs.declared.reader.TheConstants.{MOST_STREAM}
use Rattle.file_batch.specs.Batches.{IsWritten, IsWrittenPart}
use Rattle.file_batch.specs.declared.stop.BatchStop.{BatchStop}
use Rattle.file_batch.specs.declared.stop.BatchStop.TheVariants as stops
use Rattle.program.specs.Runs.{GivesNoJob}
use Rattle.program.specs.declared.outcome.NoEnd.{NoEnd}
use Rattle.program.specs.declared.outcome.Outcome.{Outcome}
use Rattle.program.specs.declared.outcome.Outcome.TheVariants as ends
use Rattle.batch_pipe.specs.Batches.{IsAnsweredAlone, IsAsked, batch_duty}

-- the outcome of a batch that stopped before its end
abbrev pub stop_outcome : BatchStop → Outcome NoEnd
stop_outcome stops.Memory = ends.Memory
stop_outcome stops.ReadFault = ends.ReadFault
stop_outcome stops.WriteFault = ends.WriteFault
stop_outcome stops.TooLong = ends.TooLong MOST_STREAM

-- with such words a batch ends so: all blocks were written, or it stopped, and of the blocks of files that were read whole a front was
pub data Ends (words : List (List ℕ)) (left later old new : Option (List ℕ)) : Outcome NoEnd → Type 0 where
  no_job : (o : Outcome NoEnd) → GivesNoJob batch_duty words o → later ≡ left → Keeps old new → Ends words left later old new o
  written : (job : Job) → IsAsked words job → IsWritten (IsAnsweredAlone job) left later old new → Ends words left later old new ends.Done
  stopped : (job : Job) (stop : BatchStop) → IsAsked words job → IsWrittenPart (IsAnsweredAlone job) left later old new
      → Ends words left later old new (stop_outcome stop)
