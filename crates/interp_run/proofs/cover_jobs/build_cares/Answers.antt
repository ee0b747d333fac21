use Rattle.std.proofs.Common.{◌+◌}
use Rattle.lattice.specs.Words.{numbers_below}
use Rattle.lattice.proofs.Diagrams.{covers_nil}
use Rattle.node_store.proofs.StoreLaws.{Grows-refl, Grows-trans, IsFull-later}
use Rattle.pla_reader.specs.Reading.{description}
use Rattle.interp_run.proofs.PhaseLists.{care_planned, cares_more}
use Rattle.interp_run.proofs.TaskJobs.{output_covers}
use Rattle.interp_run.proofs.cover_jobs.build_cares.Goals as goal

pub loop-before-init : goal.loop-before-init
unfolding numbers_below
loop-before-init g c = record { grows = Grows-refl _; cares = rw c.new-cares.ensures.items (record { each = tt; held = covers_nil _ _ }) }

pub care_sets_from-requires : goal.care_sets_from-requires
care_sets_from-requires g c =
    let d = description c.args.pla.now in let grows = c.loop-before.invariant.grows in
    record {
      covers = (
        d.rows,
        c.loop-before.before + 1,
        output_covers d _ _ c.sets_of-each.result.now c.args.covers.now c.loop-before.before c.sets_of-each.ensures c.loop-before-test.true
            grows c.requires.covers,
        rw (grows.plan, grows.vars, c.requires.vars) (care_planned d _ c.loop-before.before c.loop-before-test.true c.requires.planned),
      );
    }

pub returns-in_err-care_sets_from-clause-grows : goal.returns-in_err-care_sets_from-clause-grows
returns-in_err-care_sets_from-clause-grows g c =
    let are = output_covers (description c.args.pla.now) _ _ c.sets_of-each.result.now c.args.covers.now c.loop-before.before
    c.sets_of-each.ensures c.loop-before-test.true c.loop-before.invariant.grows c.requires.covers in
    Grows-trans _ _ _ c.loop-before.invariant.grows (c.in_err-care_sets_from.ensures _ _ are).grows

pub returns-in_err-care_sets_from-clause-full : goal.returns-in_err-care_sets_from-clause-full
returns-in_err-care_sets_from-clause-full g c is =
    let are = output_covers (description c.args.pla.now) _ _ c.sets_of-each.result.now c.args.covers.now c.loop-before.before
    c.sets_of-each.ensures c.loop-before-test.true c.loop-before.invariant.grows c.requires.covers in
    IsFull-later _ _ _ c.loop-before.invariant.grows (c.in_err-care_sets_from.ensures _ _ are).full

pub returns-in_err-push-clause-grows : goal.returns-in_err-push-clause-grows
returns-in_err-push-clause-grows g c =
    let are = output_covers (description c.args.pla.now) _ _ c.sets_of-each.result.now c.args.covers.now c.loop-before.before
    c.sets_of-each.ensures c.loop-before-test.true c.loop-before.invariant.grows c.requires.covers in
    Grows-trans _ _ _ c.loop-before.invariant.grows (c.in_ok-care_sets_from.ensures _ _ are).grows

pub loop-before-preserved : goal.loop-before-preserved
loop-before-preserved g c =
    let d = description c.args.pla.now in let before = c.loop-before.invariant in
    let are = output_covers d _ _ c.sets_of-each.result.now c.args.covers.now c.loop-before.before c.sets_of-each.ensures
    c.loop-before-test.true before.grows c.requires.covers in
    let gives = rw (before.grows.vars, c.requires.vars) at (c.in_ok-care_sets_from.ensures d.rows (c.loop-before.before + 1) are) in
    record {
      grows = Grows-trans _ _ _ before.grows gives.grows;
      cares = cares_more d _ _ c.loop-before.before c.loop-before.cares.items _ c.in_ok-care_sets_from.field-0 before.cares gives
          c.in_ok-push.ensures.items;
    }
