use Rattle.std.proofs.Common.{sym, ◌∙◌}
use Rattle.std.proofs.lemmas.Result.{err_from_is_err_and}
use Rattle.aig_reader.proofs.Adding.{adds, refuses, over_now, all_read}
use Rattle.aig_reader.proofs.symbols.Table.add_symbols.Goals as goal

pub returns-in_err-rest : goal.returns-in_err-rest
returns-in_err-rest c =
    let p = err_from_is_err_and c.from_residual.result c.from_residual.ensures.1 in
    rw (p.1, p.2) (refuses _ _ _ _ _ c.loop.invariant c.loop-test.true c.in_err-rest.field-0.0
    (sym c.are_over.ensures ∙ c.if-are_over.false) c.in_err-rest.ensures)

pub loop-preserved : goal.loop-preserved
loop-preserved c =
    adds _ _ _ _ _ c.loop.invariant c.loop-test.true _ _ (sym c.are_over.ensures ∙ c.if-are_over.false) c.in_ok-rest.ensures

pub returns-after-loop : goal.returns-after-loop
returns-after-loop c = all_read _ _ _ _ _ c.loop.invariant c.loop-test.false

pub returns-then-are_over : goal.returns-then-are_over
returns-then-are_over c = over_now _ _ _ _ _ c.loop.invariant c.loop-test.true (sym c.are_over.ensures ∙ c.if-are_over.true)
