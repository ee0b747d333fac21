use Rattle.std.proofs.Common.{◌+◌, ◌-◌, ◌≡◌, ◌≤◌, ℕ, List, length}
use Rattle.std.specs.Io.KnownBytes.{Consumes}
use Rattle.file_batch.specs.Alone.{IsAnswered}
use Rattle.file_batch.specs.Progress.{IsCaused}
use Rattle.file_batch.proofs.alone.write_alone.Given as goal

abbrev pub invariant-loop-total : goal.invariant-loop-total
invariant-loop-total g l = record {
  answered : (read : List ℕ) × IsAnswered (g.A.Answerer.answers l.answerer) (g.K.Sink.held l.fn.out) (g.K.Sink.held l.out) l.reading read
      × Consumes (g.S.Source.left l.fn.source) (g.S.Source.left l.source) read × (l.total ≡ length read);
  cause : IsCaused (g.K.Sink.faults l.fn.out) (g.K.Sink.faults l.out) l.reading.written;
  faults : g.S.Source.faults l.source ≡ g.S.Source.faults l.fn.source;
  size : length l.piece ≡ 4096;
  number : l.reading.number ≤ l.total;
  total : l.total ≤ 67108864 + 4096;
}

abbrev pub decreases-loop-total : goal.decreases-loop-total
decreases-loop-total g l = 67108864 + 1 - l.total
