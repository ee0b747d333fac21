use Rattle.std.proofs.Common.{◌+◌, ◌++◌, ◌≤◌, ℕ, List, take}
use Rattle.std.specs.Prelude.{Option}
use Rattle.file_batch.specs.Alone.{IsAnswered}
use Rattle.file_batch.specs.Progress.{IsCaused}
use Rattle.file_batch.proofs.alone.answer_piece.Given as goal

abbrev pub invariant-loop-byte : goal.invariant-loop-byte
invariant-loop-byte g l = record {
  few : l.reading.number ≤ l.fn.reading.number + l.byte-index;
  fed : (start : Option (List ℕ)) (read : List ℕ)
      → IsAnswered (g.A.Answerer.answers l.answerer) start (g.K.Sink.held l.fn.out) l.fn.reading read
      → IsAnswered (g.A.Answerer.answers l.answerer) start (g.K.Sink.held l.out) l.reading (read ++ take l.byte-index l.bytes);
  cause : (start : ℕ) → IsCaused start (g.K.Sink.faults l.fn.out) l.fn.reading.written
      → IsCaused start (g.K.Sink.faults l.out) l.reading.written;
}
