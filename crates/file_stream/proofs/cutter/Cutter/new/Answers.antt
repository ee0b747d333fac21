use Rattle.std.proofs.Common.{rules, refl, [], arith}
use Rattle.file_stream.specs.Digests.{empty}
use Rattle.file_stream.proofs.Begun.{begun_empty}
use Rattle.file_stream.proofs.Digests.{Stands-nothing}
use Rattle.file_stream.proofs.cutter.Cutter.new.Goals as goal

pub returns : goal.returns
returns c = record {
  front = [];
  line = [];
  begun = begun_empty;
  short = rw c.new-2.ensures empty;
  stands = rw c.new-2.ensures Stands-nothing;
  said = refl;
  kept = search (rules, arith);
}
