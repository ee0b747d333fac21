use Rattle.std.proofs.Common.{arith}
use Rattle.node_store.proofs.StoreLaws.{node_builds, node_parts, node_planned}
use Rattle.cube_build.proofs.CubeLemmas.{cube_behind-all, cube_start, step_grown}
use Rattle.cube_build.proofs.cubes.cube.Goals as goal

pub loop-behind-init : goal.loop-behind-init
loop-behind-init g c = cube_start (g.S.Store.state c.args.store.now) c.args.row.now (g.met.S.Store.sound c.args.store.now)

pub grow-requires : goal.grow-requires
grow-requires g c =
    let ok = g.met.S.Store.sound c.loop-behind.store in let rest = c.loop-behind.invariant in
    let may = step_grown c.vars-vars.result c.loop-behind.behind c.args.row.now c.vars-vars.ensures c.loop-behind-test.true
    rest (c.children.ensures.low _ ok rest.ok) (c.children.ensures.high _ ok rest.ok)
    c.requires.care c.requires.value c.requires.planned in
    record { parts = node_parts may; planned = node_planned may ok }

pub loop-behind-preserved : goal.loop-behind-preserved
loop-behind-preserved g c =
    let ok = g.met.S.Store.sound c.loop-behind.store in let rest = c.loop-behind.invariant in
    let may = step_grown c.vars-vars.result c.loop-behind.behind c.args.row.now c.vars-vars.ensures c.loop-behind-test.true
    rest (c.children.ensures.low _ ok rest.ok) (c.children.ensures.high _ ok rest.ok)
    c.requires.care c.requires.value c.requires.planned in
    node_builds may c.in_ok-points.ensures

pub returns : goal.returns
returns g c = grind (arith, cube_behind-all)
