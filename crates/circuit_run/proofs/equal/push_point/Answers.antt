use Rattle.std.proofs.Common.{◌∙◌, arith}
use Rattle.std.proofs.lemmas.Grind.{common_steps}
use Rattle.std.proofs.lemmas.List.{get_or_default}
use Rattle.lattice.proofs.Polynomials.{drop_next}
use Rattle.circuit_run.proofs.PrintedLines.{point_next, weight_half}
use Rattle.circuit_run.proofs.equal.push_point.Goals as goal

pub loop-name-preserved : goal.loop-name-preserved
loop-name-preserved c =
    let names = c.args.names.now in let i = c.loop-name.name-index in let name = c.as_slice.result.now in
    let is = c.as_slice.ensures ∙ (c.name-item.is ∙ get_or_default names i c.name-item.result name c.loop-name-test.true) in
    let next = drop_next names i name c.loop-name-test.true is in
    let half = weight_half names i name next c.loop-name.weight c.loop-name.invariant.weight in
    let more = point_next names i name next c.args.point in
    record { weight = half; written = grind (arith, common_steps, half, more) }
