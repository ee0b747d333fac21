-- What became of the stream in the branch that reads.
use Rattle.std.specs.Prelude.{Result}
use Rattle.file_relay.specs.declared.reader.StreamStop.{StreamStop}
use Rattle.file_batch.specs.declared.branches.Stream.{Stream}
use Rattle.file_batch.specs.declared.branches.Stream.TheVariants.{Read, Unread}

-- a fact of how the reading ended, where the stream was read
abbrev pub IfRead : Stream → (Result (Unit {0}) StreamStop → Type 0) → Type 0
IfRead (Read ended) holds = holds ended
IfRead Unread holds = Unit {0}
