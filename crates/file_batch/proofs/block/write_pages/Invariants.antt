use Rattle.std.proofs.Common.{◌≡◌, take}
use Rattle.std.specs.Io.KnownBytes.{Appends}
use Rattle.std.specs.List.{concat}
use Rattle.file_batch.proofs.block.write_pages.Given as goal

abbrev pub invariant-loop-page : goal.invariant-loop-page
invariant-loop-page g l = record {
  gained : Appends (g.K.Sink.held l.fn.out) (g.K.Sink.held l.out) (concat (take l.page-index l.pages));
  faults : g.K.Sink.faults l.out ≡ g.K.Sink.faults l.fn.out;
}
