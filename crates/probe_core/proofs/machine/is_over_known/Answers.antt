use Rattle.std.proofs.Common.{arith}
use Rattle.std.proofs.lemmas.Bool.{false≢true}
use Rattle.probe_core.proofs.NodeLemmas.{packed, node_of}
use Rattle.probe_core.proofs.machine.is_over_known.Goals as goal

pub returns-in_default : goal.returns-in_default
returns-in_default c = (
  λ no. absurd (false≢true no),
  λ is.
      let last = is.last in
      absurd (c.in_default.ensures.none (node_of c.args.word) (packed c.args.word is.first (omega arith) is.full)),
)
