use Rattle.std.proofs.Common.{refl}
use Rattle.lattice.specs.Words.{first_only}
use Rattle.set_algebra.proofs.Calls.{after_combined, combined_planned, points_end, points_failed}
use Rattle.cube_build.proofs.BuiltSets.{fdr_ones, fdr_start}
use Rattle.cube_build.proofs.care.sets_of_fdr.Goals as goal

pub minus-requires-clause-planned : goal.minus-requires-clause-planned
minus-requires-clause-planned g c =
    let k = fdr_start c.args.on c.args.off c.args.dc (g.met.S.Store.sound c.args.store.now) c.requires.on c.requires.off c.requires.dc
    c.requires.planned in
    combined_planned first_only refl k k.here.0 k.here.1.1.0

pub returns-in_err-ones : goal.returns-in_err-ones
returns-in_err-ones g c =
    let k = fdr_start c.args.on c.args.off c.args.dc (g.met.S.Store.sound c.args.store.now) c.requires.on c.requires.off c.requires.dc
    c.requires.planned in
    points_failed c.from_residual.ensures.0 k.reads c.in_err-ones.ensures

pub minus-requires-2-clause-planned : goal.minus-requires-2-clause-planned
minus-requires-2-clause-planned g c =
    let k = fdr_ones c.args.on c.args.off c.args.dc (g.met.S.Store.sound c.args.store.now) c.requires.on c.requires.off c.requires.dc
    c.requires.planned
    c.in_ok-ones.ensures in combined_planned first_only refl k k.here.1.1.0 k.here.1.1.1.0

pub returns-in_err-zeros : goal.returns-in_err-zeros
returns-in_err-zeros g c =
    let k = fdr_ones c.args.on c.args.off c.args.dc (g.met.S.Store.sound c.args.store.now) c.requires.on c.requires.off c.requires.dc
    c.requires.planned
    c.in_ok-ones.ensures in points_failed c.from_residual-in_err-zeros.ensures.0 k.reads c.in_err-zeros.ensures

pub returns : goal.returns
returns g c =
    let ones = fdr_ones c.args.on c.args.off c.args.dc (g.met.S.Store.sound c.args.store.now) c.requires.on c.requires.off c.requires.dc
    c.requires.planned
    c.in_ok-ones.ensures in
    let k = after_combined first_only refl ones ones.here.1.1.0 ones.here.1.1.1.0 c.in_ok-zeros.ensures in
    points_end k k.here.0 k.here.1.0
