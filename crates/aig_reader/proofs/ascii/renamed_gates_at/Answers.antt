use Rattle.std.proofs.lemmas.Result.{err_from_is_err_and}
use Rattle.aig_reader.specs.Ascii.{renamed_gate_at}
use Rattle.aig_reader.proofs.Loops.{goes_on, stops, is_done}
use Rattle.aig_reader.proofs.ascii.renamed_gates_at.Goals as goal

pub returns-in_err-gate : goal.returns-in_err-gate
returns-in_err-gate c =
    let p = err_from_is_err_and c.from_residual.result c.from_residual.ensures.1 in
    rw (p.1, p.2) (stops (λ k. renamed_gate_at c.args.table.now) _ _ _ _ _ c.loop.invariant c.in_err-gate.field-0.0
    c.loop-test.true c.in_err-gate.ensures)

pub loop-preserved : goal.loop-preserved
loop-preserved c =
    rw c.in_ok-push.ensures.items
    (goes_on (λ k. renamed_gate_at c.args.table.now) _ _ _ _ _ c.loop.invariant _ _ c.loop-test.true c.in_ok-gate.ensures)

pub returns : goal.returns
returns c = is_done (λ k. renamed_gate_at c.args.table.now) _ _ _ _ _ c.loop.invariant c.loop-test.false
