use Rattle.std.proofs.Common.{arith}
use Rattle.aig_pairs.proofs.Parts.{one_more}
use Rattle.aig_pairs.proofs.pairs.first_part.Goals as goal

pub loop-at-preserved : goal.loop-at-preserved
loop-at-preserved c =
    one_more c.args.bytes.now c.loop-at.at c.loop-at.invariant (rw c.in_default.is at c.in_ok-first.ensures)

pub returns : goal.returns
returns c = λ at first less part. c.loop-at.invariant at first (omega (arith, less, c.loop-at-test.false)) part
