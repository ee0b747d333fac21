use Rattle.std.proofs.Common.{refl}
use Rattle.aig_pairs.specs.Pairs.{whole}
use Rattle.aig_pairs.proofs.pairs.unparted.Goals as goal
use Rattle.aig_pairs.proofs.pairs.unparted.Goals.{in-Ok, in-Err-Bad, in-Err-Memory}

pub returns : goal.returns
returns c = elim c.match-read.branch [
  | in-Ok w ↦ rw w.result-is (whole _ c.requires w.in-Ok.ensures refl)
  | in-Err-Bad w ↦ rw w.result-is (whole _ c.requires (rw w.in-Err-Bad.field-0-is at w.in-Err-Bad.ensures) refl)
  | in-Err-Memory w ↦ rw w.result-is tt
]
