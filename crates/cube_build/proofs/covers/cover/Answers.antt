use Rattle.cube_build.proofs.covers.cover.Goals as goal
use Rattle.std.proofs.Common.{length, length-append, ◌∷◌, [], rules}
use Rattle.std.proofs.lemmas.Slice.Zip.{zip_turn, zip_end}
use Rattle.lattice.specs.Words.{rows_with}
use Rattle.node_store.proofs.StoreLaws.{failed, reads_one}
use Rattle.cube_build.proofs.CoverLemmas.{no_row, cover_start, turn_known, turn_planned, turn_chosen, turn_other, turn_end}

pub loop-row-init : goal.loop-row-init
unfolding rows_with
loop-row-init g c = cover_start (g.S.Store.state c.args.store.now) (g.met.S.Store.sound c.args.store.now)

pub union-requires-clause-b : goal.union-requires-clause-b
union-requires-clause-b g c =
    let turn = zip_turn c.args.rows.now c.args.cubes.now c.loop-row.yielded c.into_iter-row-iterator.result _ c.next.new.self _
    (search rules) (search rules) c.loop-row.yielded_by _ c.in-Some.is c.next.ensures.steps in
    turn_known _ _ c.args.rows.now c.args.cubes.now c.args.set c.args.output (length c.loop-row.yielded) _ c.loop-row.invariant
    c.requires.cubes turn.0 _ _ (turn.2 no_row) (turn.3 c.in-Some.cube.now) _ c.is_in.ensures
    (g.met.S.Store.sound c.loop-row.store) c.if-is_in.true

pub union-requires-clause-planned : goal.union-requires-clause-planned
union-requires-clause-planned g c =
    let turn = zip_turn c.args.rows.now c.args.cubes.now c.loop-row.yielded c.into_iter-row-iterator.result _ c.next.new.self _
    (search rules) (search rules) c.loop-row.yielded_by _ c.in-Some.is c.next.ensures.steps in
    turn_planned _ _ c.args.rows.now c.args.cubes.now c.args.set c.args.output (length c.loop-row.yielded) _ c.loop-row.invariant
    c.requires.cubes turn.0 _ _ (turn.2 no_row) (turn.3 c.in-Some.cube.now) _ c.is_in.ensures
    (g.met.S.Store.sound c.loop-row.store) c.if-is_in.true c.requires.planned

pub returns-in_err-points : goal.returns-in_err-points
returns-in_err-points g c = failed c.from_residual.ensures.0 (reads_one c.loop-row.invariant) c.in_err-points.ensures

pub loop-row-preserved-then-is_in : goal.loop-row-preserved-then-is_in
loop-row-preserved-then-is_in g c =
    let turn = zip_turn c.args.rows.now c.args.cubes.now c.loop-row.yielded c.into_iter-row-iterator.result _ c.next.new.self _
    (search rules) (search rules) c.loop-row.yielded_by _ c.in-Some.is c.next.ensures.steps in
    rw (length-append c.loop-row.yielded ((c.in-Some.row, c.in-Some.cube) ∷ []))
    (turn_chosen _ _ c.args.rows.now c.args.cubes.now c.args.set c.args.output (length c.loop-row.yielded) _ c.loop-row.invariant
    c.requires.cubes turn.0 _ _ (turn.2 no_row) (turn.3 c.in-Some.cube.now) _ c.is_in.ensures
    (g.met.S.Store.sound c.loop-row.store) c.if-is_in.true _ _ c.in_ok-points.ensures)

pub loop-row-preserved : goal.loop-row-preserved
loop-row-preserved g c =
    let turn = zip_turn c.args.rows.now c.args.cubes.now c.loop-row.yielded c.into_iter-row-iterator.result _ c.next.new.self _
    (search rules) (search rules) c.loop-row.yielded_by _ c.in-Some.is c.next.ensures.steps in
    rw (length-append c.loop-row.yielded ((c.in-Some.row, c.in-Some.cube) ∷ []))
    (turn_other _ _ c.args.rows.now c.args.cubes.now c.args.set c.args.output (length c.loop-row.yielded) _ c.loop-row.invariant
    c.requires.cubes turn.0 _ _ (turn.2 no_row) (turn.3 c.in-Some.cube.now) _ c.is_in.ensures c.if-is_in.false)

pub returns : goal.returns
returns g c =
    turn_end _ _ c.args.rows.now c.args.cubes.now c.args.set c.args.output (length c.loop-row.yielded) _ c.loop-row.invariant
    c.requires.cubes (zip_end c.args.rows.now c.args.cubes.now c.loop-row.yielded c.into_iter-row-iterator.result _ c.next.new.self _
    (search rules) (search rules) c.loop-row.yielded_by c.in-None.is c.next.ensures.steps)
