use Rattle.std.proofs.Common.{◌∙◌, codes, sym}
use Rattle.std.proofs.lemmas.Result.{err_from_is_err_and}
use Rattle.aig_reader.specs.Reading.{circuit}
use Rattle.circuit_run.specs.Parts.{view}
use Rattle.circuit_run.proofs.Seeing.{count_names, seen_whole, uncared, uninverted, unordered, view_whole, view_without}
use Rattle.circuit_run.proofs.view.see.Goals as goal

pub returns-then-has_no_inputs-clause-seen : goal.returns-then-has_no_inputs-clause-seen
returns-then-has_no_inputs-clause-seen c =
    view_without c.args.job.now (circuit c.args.aig.now) (sym c.has_no_inputs.ensures ∙ c.if-has_no_inputs.true)

pub returns-in_err-order-clause-seen : goal.returns-in_err-order-clause-seen
returns-in_err-order-clause-seen c =
    let names = c.printed-names.ensures ∙ c.in_ok-in_place.ensures in
    let stop = err_from_is_err_and c.from_residual-in_err-order.result c.from_residual-in_err-order.ensures.1 in
    rw (stop.1, stop.2) (unordered c.args.job.now (circuit c.args.aig.now) c.in_err-order.field-0.0
    (sym c.has_no_inputs.ensures ∙ c.if-has_no_inputs.false) (rw names at c.in_err-order.ensures.order))

pub returns-in_err-inverted-clause-seen : goal.returns-in_err-inverted-clause-seen
returns-in_err-inverted-clause-seen c =
    let names = c.printed-names.ensures ∙ c.in_ok-in_place.ensures in
    let stop = err_from_is_err_and c.from_residual-in_err-inverted.result c.from_residual-in_err-inverted.ensures.1 in
    rw (stop.1, stop.2) (uninverted c.args.job.now (circuit c.args.aig.now) (sym c.has_no_inputs.ensures ∙ c.if-has_no_inputs.false)
    (rw names at c.in_ok-order.ensures.order) c.in_err-inverted.field-0.0 (rw names at c.in_err-inverted.ensures.inverted))

pub returns-in_err-care-clause-seen : goal.returns-in_err-care-clause-seen
returns-in_err-care-clause-seen c =
    let names = c.printed-names.ensures ∙ c.in_ok-in_place.ensures in
    let stop = err_from_is_err_and c.from_residual-in_err-care.result c.from_residual-in_err-care.ensures.1 in
    rw (stop.1, stop.2) (uncared c.args.job.now (circuit c.args.aig.now) (sym c.has_no_inputs.ensures ∙ c.if-has_no_inputs.false)
    (rw names at c.in_ok-order.ensures.order) (rw names at c.in_ok-inverted.ensures.inverted) c.in_err-care.field-0.0
    c.in_err-care.ensures.care)

pub returns-clause-seen : goal.returns-clause-seen
returns-clause-seen c =
    let names = c.printed-names.ensures ∙ c.in_ok-in_place.ensures in
    rw (
      rw c.deref.ensures.value at c.in_ok-arrange_circuit.ensures,
      rw (c.deref-2.ensures.value, names) at c.in_ok-marked_names.ensures,
    )
    (view_whole c.args.job.now (circuit c.args.aig.now) (sym c.has_no_inputs.ensures ∙ c.if-has_no_inputs.false)
    (rw names at c.in_ok-order.ensures.order) (rw names at c.in_ok-inverted.ensures.inverted) c.in_ok-care.ensures.care)

pub returns-clause-whole : goal.returns-clause-whole
returns-clause-whole c =
    let names = c.printed-names.ensures ∙ c.in_ok-in_place.ensures in
    let count = count_names (codes "x") c.args.aig.now.inputs c.args.aig.now.in_names c.printed-names.result.now _
    c.args.aig.now.fits.in_count c.printed-names.ensures c.in_ok-in_place.ensures in
    seen_whole (circuit c.args.aig.now) c.in_ok-order.order c.in_ok-inverted.inverted.items
    (view (record { aig = c.in_ok-arrange_circuit.field-0; in_names = c.in_ok-marked_names.field-0; care = c.in_ok-care.care }))
    (rw c.deref.ensures.value at c.in_ok-arrange_circuit.ensures) (rw (c.deref-2.ensures.value, names) at c.in_ok-marked_names.ensures)
    (sym c.has_no_inputs.ensures ∙ c.if-has_no_inputs.false)
    (rw count at c.in_ok-order.ensures.good) c.in_ok-arrange_circuit.field-0.fits c.in_ok-care.ensures.within
