use Rattle.std.proofs.Common.{◌||◌, refl}
use Rattle.lattice.specs.Words.{first_only}
use Rattle.set_algebra.proofs.Calls.{combined_planned, points_end, points_failed}
use Rattle.cube_build.proofs.BuiltSets.{after_outside, fd_listed, fd_ones, fd_start, outside_planned}
use Rattle.cube_build.proofs.care.sets_of_fd.Goals as goal

pub minus-requires-clause-planned : goal.minus-requires-clause-planned
minus-requires-clause-planned g c =
    let k = fd_start c.args.on c.args.dc (g.met.S.Store.sound c.args.store.now) c.requires.on c.requires.dc c.requires.planned in
    combined_planned first_only refl k k.here.0 k.here.1.0

pub returns-in_err-ones : goal.returns-in_err-ones
returns-in_err-ones g c =
    let k = fd_start c.args.on c.args.dc (g.met.S.Store.sound c.args.store.now) c.requires.on c.requires.dc c.requires.planned in
    points_failed c.from_residual.ensures.0 k.reads c.in_err-ones.ensures

pub union-requires-clause-planned : goal.union-requires-clause-planned
union-requires-clause-planned g c =
    let k = fd_ones c.args.on c.args.dc (g.met.S.Store.sound c.args.store.now) c.requires.on c.requires.dc c.requires.planned
    c.in_ok-ones.ensures in
    combined_planned (λ a b. a || b) refl k k.here.1.0 k.here.1.1.0

pub returns-in_err-listed : goal.returns-in_err-listed
returns-in_err-listed g c =
    let k = fd_ones c.args.on c.args.dc (g.met.S.Store.sound c.args.store.now) c.requires.on c.requires.dc c.requires.planned
    c.in_ok-ones.ensures in
    points_failed c.from_residual-in_err-listed.ensures.0 k.reads c.in_err-listed.ensures

pub outside-requires-clause-planned : goal.outside-requires-clause-planned
outside-requires-clause-planned g c =
    let k = fd_listed c.args.on c.args.dc (g.met.S.Store.sound c.args.store.now) c.requires.on c.requires.dc c.requires.planned
    c.in_ok-ones.ensures c.in_ok-listed.ensures in
    outside_planned k k.here.0

pub returns-in_err-zeros : goal.returns-in_err-zeros
returns-in_err-zeros g c =
    let k = fd_listed c.args.on c.args.dc (g.met.S.Store.sound c.args.store.now) c.requires.on c.requires.dc c.requires.planned
    c.in_ok-ones.ensures c.in_ok-listed.ensures in
    points_failed c.from_residual-in_err-zeros.ensures.0 k.reads c.in_err-zeros.ensures

pub returns : goal.returns
returns g c =
    let listed = fd_listed c.args.on c.args.dc (g.met.S.Store.sound c.args.store.now) c.requires.on c.requires.dc c.requires.planned
    c.in_ok-ones.ensures c.in_ok-listed.ensures in
    let k = after_outside listed listed.here.0 c.in_ok-zeros.ensures in points_end k k.here.0 k.here.1.1.0
