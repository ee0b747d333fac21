use Rattle.std.proofs.Common.{arith}
use Rattle.lattice.specs.Words.{is_one, is_zero}
use Rattle.interp_run.proofs.Written.{points_counted, within_some}
use Rattle.interp_run.proofs.solve.count_points.Goals as goal

pub unwrap-zeros-requires : goal.unwrap-zeros-requires
unwrap-zeros-requires g c = let p = c.args.pla.now in points_counted (is_zero p.kind) p.inputs p.rows c.args.output
    (g.S.Store.state c.args.store.now) c.args.care.zeros c.count_upto.result p.fits.few_inputs c.requires.zeros c.count_upto.ensures.over

pub unwrap-ones-requires : goal.unwrap-ones-requires
unwrap-ones-requires g c = let p = c.args.pla.now in points_counted (is_one p.kind) p.inputs p.rows c.args.output
    (g.S.Store.state c.count_upto.new.store) c.args.care.ones c.count_upto-2.result p.fits.few_inputs
    (c.count_upto.ensures.reads.grows.known c.args.care.ones.0 _ c.requires.ones) c.count_upto-2.ensures.over

pub overflow_add-result : goal.overflow_add-result
overflow_add-result g c = omega (
  arith,
  within_some c.count_upto.result c.unwrap-zeros.result _ c.unwrap-zeros.ensures c.count_upto.ensures.within,
  within_some c.count_upto-2.result c.unwrap-ones.result _ c.unwrap-ones.ensures c.count_upto-2.ensures.within,
)
