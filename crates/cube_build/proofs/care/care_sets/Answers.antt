use Rattle.std.proofs.Common.{arith, length-set, refl, ◌∙◌}
use Rattle.node_store.proofs.StoreLaws.{Reads-refl, then_call}
use Rattle.set_algebra.proofs.Calls.{points_after, points_failed}
use Rattle.cube_build.specs.declared.covers.PointSet.TheVariants.{On}
use Rattle.cube_build.proofs.CareLemmas.{all_covers, covers_more, later_planned}
use Rattle.cube_build.proofs.care.care_sets.Goals as goal

pub build_cover-requires-clause-planned : goal.build_cover-requires-clause-planned
build_cover-requires-clause-planned g c =
    let p = c.args.p.now in
    rw c.sets_of-sets.ensures
    (later_planned (g.S.Store.state c.args.store.now) (g.S.Store.state c.loop-place.store) p.inputs p.kind p.rows c.args.output
    c.loop-place.place On c.loop-place.invariant.reads c.requires.vars (rw c.sets_of-sets.ensures at c.loop-place-test.true)
    c.requires.planned)

pub loop-place-init : goal.loop-place-init
loop-place-init g c = record {
  reads = Reads-refl (g.S.Store.state c.args.store.now);
  covers = λ k e less. absurd (omega arith);
  room = refl;
}

pub returns-in_err-covers : goal.returns-in_err-covers
returns-in_err-covers g c = points_failed c.from_residual.ensures.0 c.loop-place.invariant.reads c.in_err-covers.ensures

pub loop-place-preserved : goal.loop-place-preserved
loop-place-preserved g c =
    let p = c.args.p.now in let before = c.loop-place.invariant in
    record {
      reads = then_call before.reads c.in_ok-covers.ensures;
      covers = covers_more (g.S.Store.state c.loop-place.store) (g.S.Store.state c.build_cover.new.store) p.kind p.rows c.args.output
          c.loop-place.place On c.loop-place.covers c.in_ok-covers.field-0 (rw c.sets_of-sets.ensures at c.loop-place-test.true)
          before.room before.covers (rw c.sets_of-sets.ensures at c.in_ok-covers.ensures);
      room = length-set c.loop-place.covers c.loop-place.place c.in_ok-covers.field-0 ∙ before.room;
    }

pub care_sets_from-requires : goal.care_sets_from-requires
care_sets_from-requires g c =
    let p = c.args.p.now in let t = g.S.Store.state c.loop-place.store in let found = c.loop-place.invariant in
    record {
      covers = (
        p.rows,
        c.args.output,
        all_covers _ p.kind p.rows c.args.output _ c.loop-place.place c.loop-place.covers c.sets_of-sets.ensures (omega arith) found.room
            found.covers,
        rw (found.reads.grows.plan, found.reads.grows.vars, c.requires.vars) c.requires.planned,
      );
    }

pub returns : goal.returns
returns g c =
    let p = c.args.p.now in let t = g.S.Store.state c.loop-place.store in let found = c.loop-place.invariant in
    let are = all_covers _ p.kind p.rows c.args.output _ c.loop-place.place c.loop-place.covers c.sets_of-sets.ensures (omega arith)
    found.room found.covers in
    points_after found.reads (rw (found.reads.grows.vars, c.requires.vars) at (c.care_sets_from.ensures p.rows c.args.output are))
