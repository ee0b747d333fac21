use Rattle.std.proofs.Common.{◌∙◌}
use Rattle.node_store.proofs.StoreLaws.{Grows-trans}
use Rattle.circuit_solve.proofs.AnswerSteps.{care_held, others_known, others_planned, own_known, own_planned, points_known}
use Rattle.circuit_solve.proofs.answers.answers_with_care.Goals as goal

pub points_where-requires-clause-known : goal.points_where-requires-clause-known
points_where-requires-clause-known g c =
    own_known (g.S.Store.state c.args.store.now) c.args.polynomials.items c.args.output c.requires.output c.requires.known
    c.requires.planned c.remove-own.result c.remove-own.ensures.value

pub points_where-requires-clause-planned : goal.points_where-requires-clause-planned
points_where-requires-clause-planned g c =
    own_planned (g.S.Store.state c.args.store.now) c.args.polynomials.items c.args.output c.requires.output c.requires.known
    c.requires.planned c.remove-own.result c.remove-own.ensures.value

pub all_reduced_at-requires-clause-points : goal.all_reduced_at-requires-clause-points
all_reduced_at-requires-clause-points g c =
    points_known (g.S.Store.state c.args.store.now) c.args.polynomials.items c.args.output c.requires.output c.requires.known
    c.requires.planned c.remove-own.result c.remove-own.ensures.value c.deref.result.now
    (c.deref.ensures.value ∙ c.remove-own.ensures.items) c.in_ok-points.ensures

pub all_reduced_at-requires-clause-given : goal.all_reduced_at-requires-clause-given
all_reduced_at-requires-clause-given g c =
    others_known (g.S.Store.state c.args.store.now) c.args.polynomials.items c.args.output c.requires.output c.requires.known
    c.requires.planned c.remove-own.result c.remove-own.ensures.value c.deref.result.now
    (c.deref.ensures.value ∙ c.remove-own.ensures.items) c.in_ok-points.ensures

pub all_reduced_at-requires-clause-planned : goal.all_reduced_at-requires-clause-planned
all_reduced_at-requires-clause-planned g c =
    others_planned (g.S.Store.state c.args.store.now) c.args.polynomials.items c.args.output c.requires.output c.requires.known
    c.requires.planned c.remove-own.result c.remove-own.ensures.value c.deref.result.now
    (c.deref.ensures.value ∙ c.remove-own.ensures.items) c.in_ok-points.ensures

pub returns-in_err-polynomials-clause-grows : goal.returns-in_err-polynomials-clause-grows
returns-in_err-polynomials-clause-grows g c = Grows-trans _ _ _ c.in_ok-points.ensures.grows c.in_err-polynomials.ensures.grows

pub returns-clause-grows : goal.returns-clause-grows
returns-clause-grows g c = Grows-trans _ _ _ c.in_ok-points.ensures.grows c.in_ok-polynomials.ensures.grows

pub returns-clause-found : goal.returns-clause-found
returns-clause-found g c =
    care_held (g.S.Store.state c.args.store.now) c.args.polynomials.items c.args.output c.requires.output c.requires.known
    c.requires.planned c.remove-own.result c.remove-own.ensures.value c.deref.result.now
    (c.deref.ensures.value ∙ c.remove-own.ensures.items) c.in_ok-points.ensures c.in_ok-polynomials.ensures.grows
    c.in_ok-polynomials.ensures.found
