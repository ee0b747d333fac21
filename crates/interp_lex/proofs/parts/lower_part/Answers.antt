use Rattle.node_store.proofs.StoreLaws.{reads_one, then_call}
use Rattle.set_algebra.proofs.Calls.{points_failed}
use Rattle.interp_lex.proofs.PointSteps.{first_ones_planned, second_ones_planned, zeros_asked, ones_asked, lower_gives}
use Rattle.interp_lex.proofs.parts.lower_part.Goals as goal

pub ones_of-requires-clause-planned : goal.ones_of-requires-clause-planned
ones_of-requires-clause-planned g c = first_ones_planned _ (g.met.S.Store.sound c.args.store.now) c.requires

pub ones_of-requires-2-clause-planned : goal.ones_of-requires-2-clause-planned
ones_of-requires-2-clause-planned g c =
    second_ones_planned _ (g.met.S.Store.sound c.args.store.now) c.requires c.in_ok-zeros_at_one.ensures.result

pub returns-in_err-ones_at_one-clause-result : goal.returns-in_err-ones_at_one-clause-result
returns-in_err-ones_at_one-clause-result g c =
    points_failed c.from_residual-in_err-ones_at_one.ensures.0 (reads_one c.in_ok-zeros_at_one.ensures.result)
    c.in_err-ones_at_one.ensures.result

pub replaced-requires : goal.replaced-requires
replaced-requires g c =
    zeros_asked _ (g.met.S.Store.sound c.args.store.now) c.requires c.in_ok-zeros_at_one.ensures.result
    (g.met.S.Store.sound c.ones_of-2.new.store) c.in_ok-ones_at_one.ensures.result c.in_ok-ones_at_one.ensures.ready

pub returns-in_err-zeros-clause-result : goal.returns-in_err-zeros-clause-result
returns-in_err-zeros-clause-result g c =
    points_failed c.from_residual-in_err-zeros.ensures.0
    (then_call (reads_one c.in_ok-zeros_at_one.ensures.result) c.in_ok-ones_at_one.ensures.result) c.in_err-zeros.ensures.result

pub replaced-requires-2 : goal.replaced-requires-2
replaced-requires-2 g c =
    ones_asked _ (g.met.S.Store.sound c.args.store.now) c.requires c.in_ok-zeros_at_one.ensures.result
    (g.met.S.Store.sound c.ones_of-2.new.store) c.in_ok-ones_at_one.ensures.result c.in_ok-zeros.ensures.result
    c.in_ok-zeros.ensures.ready

pub returns-in_err-ones-clause-result : goal.returns-in_err-ones-clause-result
returns-in_err-ones-clause-result g c =
    let both = then_call (reads_one c.in_ok-zeros_at_one.ensures.result) c.in_ok-ones_at_one.ensures.result in
    points_failed c.from_residual-in_err-ones.ensures.0 (then_call both c.in_ok-zeros.ensures.result) c.in_err-ones.ensures.result

pub returns-clause-result : goal.returns-clause-result
returns-clause-result g c =
    lower_gives _ (g.met.S.Store.sound c.args.store.now) c.requires c.in_ok-zeros_at_one.ensures.result
    (g.met.S.Store.sound c.ones_of-2.new.store) c.in_ok-ones_at_one.ensures.result c.in_ok-zeros.ensures.result
    c.in_ok-ones.ensures.result
