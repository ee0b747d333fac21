use Rattle.std.proofs.Common.{arith, refl}
use Rattle.aig_pairs.proofs.Parts.{ends_by_refusal, goes_on}
use Rattle.aig_pairs.proofs.pairs.ends_at.Goals as goal
use Rattle.aig_pairs.proofs.pairs.ends_at.Goals.{in-Ok, in-Err-Bad, in-Err-Memory}

pub returns : goal.returns
returns c = elim c.match-read.branch [
  | in-Ok w ↦ rw w.result-is (goes_on c.args.bytes.now c.args.at _ (λ feed. grind (arith, feed, c.if-bytes-at-eq10.false)) w.in-Ok.ensures)
  | in-Err-Bad w ↦ rw w.result-is (ends_by_refusal c.args.bytes.now c.args.at _ (rw w.in-Err-Bad.field-0-is at w.in-Err-Bad.ensures))
  | in-Err-Memory w ↦ rw w.result-is refl
]
