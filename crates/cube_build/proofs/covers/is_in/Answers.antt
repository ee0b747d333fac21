use Rattle.std.proofs.Common.{◌-◌, arith}
use Rattle.cube_build.specs.PointSets.{mask_of}
use Rattle.cube_build.proofs.CoverLemmas.{bit_says}
use Rattle.cube_build.proofs.covers.is_in.Goals as goal
use Rattle.cube_build.proofs.covers.is_in.Goals.{in-On, in-Off, in-Dc}

pub returns : goal.returns
returns c =
    bit_says (c.args.output - 1) c.match-set.mask (mask_of c.args.set c.args.row.now) (omega arith) (elim c.match-set.branch [
      | in-On w ↦ rw w.in-On.is w.mask-is
      | in-Off w ↦ rw w.in-Off.is w.mask-is
      | in-Dc w ↦ rw w.in-Dc.is w.mask-is
    ])
