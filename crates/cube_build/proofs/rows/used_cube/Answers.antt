use Rattle.std.proofs.Common.{[], arith}
use Rattle.node_store.proofs.StoreLaws.{Builds-known}
use Rattle.cube_build.proofs.CoverLemmas.{used_cube-some, used_cube-none}
use Rattle.cube_build.proofs.rows.used_cube.Goals as goal

pub cube-requires-clause-planned : goal.cube-requires-clause-planned
cube-requires-clause-planned g c = grind (arith, used_cube-some)

pub returns-then-names_output : goal.returns-then-names_output
returns-then-names_output g c = grind (arith, used_cube-some)

pub returns-else-names_output : goal.returns-else-names_output
returns-else-names_output g c =
    let ok = g.met.S.Store.sound c.args.store.now in let known = Builds-known _ (record { 0 = 0 }) [] ok ok.empty in
    grind (arith, used_cube-none, known)
