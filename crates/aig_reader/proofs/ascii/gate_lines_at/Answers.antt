use Rattle.std.proofs.lemmas.Result.{err_from_is_err_and}
use Rattle.aig_reader.specs.Ascii.{gate_line_at}
use Rattle.aig_reader.proofs.Loops.{steps, breaks, is_through}
use Rattle.aig_reader.proofs.ascii.gate_lines_at.Goals as goal

pub returns-in_err-rest : goal.returns-in_err-rest
returns-in_err-rest c =
    let p = err_from_is_err_and c.from_residual.result c.from_residual.ensures.1 in
    rw (p.1, p.2) (breaks (gate_line_at c.args.inputs) _ _ _ _ _ c.loop-k.invariant c.in_err-rest.field-0.0 c.loop-k-test.true
    c.in_err-rest.ensures)

pub loop-k-preserved : goal.loop-k-preserved
loop-k-preserved c = steps (gate_line_at c.args.inputs) _ _ _ _ _ c.loop-k.invariant _ _ c.loop-k-test.true c.in_ok-rest.ensures

pub returns : goal.returns
returns c = is_through (gate_line_at c.args.inputs) _ _ _ _ _ c.loop-k.invariant c.loop-k-test.false
