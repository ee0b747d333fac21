use Rattle.node_store.proofs.StoreLaws.{reads_one}
use Rattle.set_algebra.proofs.Calls.{points_failed}
use Rattle.interp_lex.specs.Parts.{common_list}
use Rattle.interp_lex.proofs.PointSteps.{call_on_planned, upper_start, upper_ones_planned, upper_gives}
use Rattle.interp_lex.proofs.parts.upper_part.Goals as goal

pub common-requires-clause-planned : goal.common-requires-clause-planned
common-requires-clause-planned g c =
    let k = upper_start (g.met.S.Store.sound c.args.store.now) c.requires.known c.requires.planned in
    call_on_planned common_list _ k k.here.0 k.here.1.0 k.here.1.1.0 k.here.1.1.1.0

pub common-requires-2-clause-planned : goal.common-requires-2-clause-planned
common-requires-2-clause-planned g c =
    upper_ones_planned (g.met.S.Store.sound c.args.store.now) c.requires.known c.requires.planned c.in_ok-zeros.ensures.result

pub returns-in_err-ones-clause-result : goal.returns-in_err-ones-clause-result
returns-in_err-ones-clause-result g c =
    points_failed c.from_residual-in_err-ones.ensures.0 (reads_one c.in_ok-zeros.ensures.result) c.in_err-ones.ensures.result

pub returns-clause-result : goal.returns-clause-result
returns-clause-result g c =
    upper_gives (g.met.S.Store.sound c.args.store.now) c.requires.known c.requires.planned c.in_ok-zeros.ensures.result
    c.in_ok-ones.ensures.result
