use Rattle.std.proofs.Common.{refl}
use Rattle.cube_sets.proofs.SharedPoints.{shared_where_same}
use Rattle.cube_sets.proofs.clash.meets.Goals as goal

pub returns : goal.returns
returns c n a_below b_below = shared_where_same n c.args.a.now c.args.b.now _ c.requires.first c.requires.second refl a_below b_below
