use Rattle.node_store.proofs.StoreLaws.{Grows-trans}
use Rattle.aig_reader.specs.Reading.{circuit}
use Rattle.circuit_solve.proofs.ElementSteps.{answers_planned, first_held, leads_planned, points_are_known, points_known, points_planned}
use Rattle.circuit_solve.proofs.phases.first_phase.Goals as goal

pub answers-requires-clause-planned : goal.answers-requires-clause-planned
answers-requires-clause-planned g c = answers_planned (circuit c.args.aig.now) c.args.care _ c.requires.planned

pub points_or_all-requires-clause-known : goal.points_or_all-requires-clause-known
points_or_all-requires-clause-known g c =
    points_are_known (g.S.Store.state c.answers.new.store) (circuit c.args.aig.now) c.args.care c.in_ok-found.found.points
    c.in_ok-found.ensures.found.points

pub points_or_all-requires-clause-planned : goal.points_or_all-requires-clause-planned
points_or_all-requires-clause-planned g c =
    points_planned (circuit c.args.aig.now) c.args.care c.requires.vars c.requires.planned c.in_ok-found.ensures.grows c.in_ok-found.found
    c.in_ok-found.ensures.found

pub returns-in_err-points-clause-grows : goal.returns-in_err-points-clause-grows
returns-in_err-points-clause-grows g c = Grows-trans _ _ _ c.in_ok-found.ensures.grows c.in_err-points.ensures.grows

pub leads_of_points-requires-clause-known : goal.leads_of_points-requires-clause-known
leads_of_points-requires-clause-known g c =
    points_known (circuit c.args.aig.now) c.args.care c.requires.vars c.requires.planned c.in_ok-found.ensures.grows c.in_ok-found.found
    c.in_ok-found.ensures.found c.in_ok-points.ensures

pub leads_of_points-requires-clause-planned : goal.leads_of_points-requires-clause-planned
leads_of_points-requires-clause-planned g c =
    leads_planned (circuit c.args.aig.now) c.args.care c.requires.vars c.requires.planned c.in_ok-found.ensures.grows c.in_ok-found.found
    c.in_ok-found.ensures.found c.in_ok-points.ensures

pub returns-in_err-leads-clause-grows : goal.returns-in_err-leads-clause-grows
returns-in_err-leads-clause-grows g c =
    Grows-trans _ _ _ c.in_ok-found.ensures.grows (Grows-trans _ _ _ c.in_ok-points.ensures.grows c.in_err-leads.ensures.grows)

pub returns-clause-grows : goal.returns-clause-grows
returns-clause-grows g c =
    Grows-trans _ _ _ c.in_ok-found.ensures.grows (Grows-trans _ _ _ c.in_ok-points.ensures.grows c.in_ok-leads.ensures.grows)

pub returns-clause-found : goal.returns-clause-found
returns-clause-found g c =
    first_held (circuit c.args.aig.now) c.args.care c.requires.vars c.requires.planned c.in_ok-found.ensures.grows c.in_ok-found.found
    c.in_ok-found.ensures.found c.in_ok-points.ensures c.in_ok-leads.ensures
