use Rattle.std.proofs.Common.{length, arith}
use Rattle.cube_sets.proofs.Marks.{none_unmarked}
use Rattle.cube_sets.proofs.buckets.may_clash.Goals as goal

pub returns : goal.returns
returns c apart b second marked =
    none_unmarked (length c.args.offs.now) c.args.common c.args.offs.now c.args.a.now b c.requires.fixed second
    (grind (arith, apart, c.bucket_of.ensures)) marked
