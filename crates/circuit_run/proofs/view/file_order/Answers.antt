use Rattle.std.proofs.Common.{◌∙◌, ◌∷◌, ◌++◌, ◌+◌, [], ap, sym}
use Rattle.pla_reader.specs.Orders.{file_order}
use Rattle.pla_reader.proofs.ArrangedInputs.{orders_by_test}
use Rattle.circuit_run.proofs.Seeing.{file_grows, file_tested}
use Rattle.circuit_run.proofs.view.file_order.Goals as goal

pub loop-input-init : goal.loop-input-init
loop-input-init c = c.new-order.ensures ∙ sym file_grows.0

pub loop-input-preserved : goal.loop-input-preserved
loop-input-preserved c =
    let input = c.loop-input.input in
    c.in_ok-push.ensures.ok ∙ (ap (λ order. order ++ (input + 1) ∷ []) c.loop-input.invariant ∙ sym (file_grows.1 input))

pub returns-clause-good : goal.returns-clause-good
returns-clause-good c = (orders_by_test c.args.inputs (file_order c.args.inputs)).0 (file_tested c.args.inputs)
