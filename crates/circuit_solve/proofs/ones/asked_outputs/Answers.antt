use Rattle.std.proofs.Common.{arith}
use Rattle.node_store.proofs.StoreLaws.{Grows-trans}
use Rattle.aig_reader.specs.Reading.{circuit}
use Rattle.circuit_solve.proofs.AnswerSteps.{output_within}
use Rattle.circuit_solve.proofs.OneSteps.{asked_all, asked_others, outputs_are_planned, own_is_known, own_is_planned, power_planned}
use Rattle.circuit_solve.proofs.ones.asked_outputs.Goals as goal

pub output_polynomials-requires-clause-planned : goal.output_polynomials-requires-clause-planned
output_polynomials-requires-clause-planned g c = outputs_are_planned (circuit c.args.aig.now) c.args.care _ c.requires.planned

pub power-requires : goal.power-requires
power-requires g c = let is = c.in_ok-polynomials.ensures in record {
  planned = power_planned (circuit c.args.aig.now) c.requires.vars is.grows c.in_ok-polynomials.polynomials is.polynomials c.in-None.is
      c.requires.planned;
}

pub returns-in_ok-points-in-None-clause-found : goal.returns-in_ok-points-in-None-clause-found
returns-in_ok-points-in-None-clause-found g c = let is = c.in_ok-polynomials.ensures in
    asked_all (circuit c.args.aig.now) c.requires.vars is.grows c.in_ok-polynomials.polynomials is.polynomials c.in-None.is is.held
    c.in_ok-points-in-None.ensures

pub remove-own-requires : goal.remove-own-requires
remove-own-requires g c = let is = c.in_ok-polynomials.ensures in let handles = c.in_ok-polynomials.polynomials in
    omega (
      arith,
      handles.ok.0,
      output_within (g.S.Store.state c.output_polynomials.new.store) (circuit c.args.aig.now) handles
          is.polynomials c.in-Some.output (c.requires.care c.in-Some.output c.in-Some.is),
    )

pub points_where-requires-clause-known : goal.points_where-requires-clause-known
points_where-requires-clause-known g c = let is = c.in_ok-polynomials.ensures in
    own_is_known (circuit c.args.aig.now) c.requires.vars is.grows c.in_ok-polynomials.polynomials is.polynomials c.in-Some.is
    (c.requires.care _ c.in-Some.is) c.remove-own.result c.remove-own.ensures.value

pub points_where-requires-clause-planned : goal.points_where-requires-clause-planned
points_where-requires-clause-planned g c = let is = c.in_ok-polynomials.ensures in
    own_is_planned (circuit c.args.aig.now) c.requires.vars is.grows c.in_ok-polynomials.polynomials is.polynomials c.in-Some.is
    (c.requires.care _ c.in-Some.is) c.remove-own.result c.remove-own.ensures.value c.requires.planned

pub returns-in_err-points-in-Some-clause-grows : goal.returns-in_err-points-in-Some-clause-grows
returns-in_err-points-in-Some-clause-grows g c =
    Grows-trans _ _ _ c.in_ok-polynomials.ensures.grows c.in_err-points-in-Some.ensures.grows

pub returns-in_ok-points-in-Some-clause-grows : goal.returns-in_ok-points-in-Some-clause-grows
returns-in_ok-points-in-Some-clause-grows g c =
    Grows-trans _ _ _ c.in_ok-polynomials.ensures.grows c.in_ok-points-in-Some.ensures.grows

pub returns-in_ok-points-in-Some-clause-found : goal.returns-in_ok-points-in-Some-clause-found
returns-in_ok-points-in-Some-clause-found g c = let is = c.in_ok-polynomials.ensures in
    asked_others (circuit c.args.aig.now) c.requires.vars is.grows c.in_ok-polynomials.polynomials is.polynomials c.in-Some.is
    (c.requires.care _ c.in-Some.is) c.remove-own.result c.remove-own.ensures.value is.held c.remove-own.ensures.items
    c.in_ok-points-in-Some.ensures
