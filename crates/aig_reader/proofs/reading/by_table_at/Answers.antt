use Rattle.std.proofs.Common.{◌≤◌, length, Ok, ap, arith}
use Rattle.std.proofs.lemmas.Result.{err_from_is_err_and}
use Rattle.aig_reader.specs.Order.{ArePlaced, IsFirstOnItself, ordered}
use Rattle.aig_reader.specs.Reading.{circuit, in_order, looped}
use Rattle.aig_reader.proofs.Circuits.{lines_are_gates, outputs_below}
use Rattle.aig_reader.proofs.Placing.{placed_sound}
use Rattle.aig_reader.proofs.Readings.{then_fails, then_after, then_gives, gives_as}
use Rattle.aig_reader.proofs.reading.by_table_at.Goals as goal

pub returns-in_err-outputs : goal.returns-in_err-outputs
returns-in_err-outputs c =
    let p = err_from_is_err_and c.from_residual.result c.from_residual.ensures.1 in
    rw (p.1, p.2) (then_fails c.in_err-outputs.field-0.0 _ _ c.in_err-outputs.ensures)

pub returns-in_err-gates : goal.returns-in_err-gates
returns-in_err-gates c =
    let p = err_from_is_err_and c.from_residual-in_err-gates.result c.from_residual-in_err-gates.ensures.1 in
    rw (p.1, p.2) (then_after c.in_err-gates.field-0.0 _ _ _ c.in_ok-outputs.ensures
    (then_fails c.in_err-gates.field-0.0 _ _ c.in_err-gates.ensures))

pub place_all-requires : goal.place_all-requires
place_all-requires c =
    rw c.deref.ensures.value (lines_are_gates c.args.sizes c.in_ok-outputs.lines.now c.in_ok-gates.rest.now c.in_ok-gates.gates.items
    c.args.table.now c.requires.up_to c.in_ok-gates.ensures c.requires.few)

pub ordered_at-requires-clause-sound : goal.ordered_at-requires-clause-sound
ordered_at-requires-clause-sound c =
    let sizes = c.args.sizes in let lines = c.in_ok-gates.gates.items in
    let placed : ArePlaced sizes.inputs lines (length lines) (ordered c.in-Placed.order) =
    rw (c.in-Placed.is, c.deref.ensures.value) at c.in_ok-order.ensures.placed in
    let few : length c.in-Placed.order.gates.items ≤ length c.deref.result.now =
    c.in_ok-order.ensures.few c.in-Placed.order (ap (λ x. Ok x) c.in-Placed.is) in
    let are = lines_are_gates sizes c.in_ok-outputs.lines.now c.in_ok-gates.rest.now lines c.args.table.now c.requires.up_to
    c.in_ok-gates.ensures c.requires.few in
    let outs = outputs_below sizes c.in_ok-outputs.lines.now c.in_ok-gates.rest.now lines c.args.table.now c.requires.up_to
    c.in_ok-gates.ensures c.args.bytes.now c.in_ok-outputs.outputs.items c.in_ok-outputs.ensures in
    rw c.deref-in-Placed.ensures.value (record {
      lines = lines;
      sound = (placed_sound sizes.inputs lines placed).0;
      few = omega (arith, few, are.few_gates, ap length c.deref.ensures.value);
      count = outs.0;
      literals = outs.1;
    })

pub returns-in-Placed : goal.returns-in-Placed
returns-in-Placed c =
    let lines = c.in_ok-gates.gates.items in
    let placed : ArePlaced c.args.sizes.inputs lines (length lines) (ordered c.in-Placed.order) =
    rw (c.in-Placed.is, c.deref.ensures.value) at c.in_ok-order.ensures.placed in
    then_gives circuit c.ordered_at.result _ _ _ c.in_ok-outputs.ensures
    (then_gives circuit c.ordered_at.result _ _ _ c.in_ok-gates.ensures
    (gives_as circuit c.ordered_at.result _ _ (λ r e. in_order (ordered c.in-Placed.order) placed e)
    (rw c.deref-in-Placed.ensures.value at c.ordered_at.ensures)))

pub returns : goal.returns
returns c =
    let lines = c.in_ok-gates.gates.items in
    let first : IsFirstOnItself c.args.sizes.inputs lines c.in-OnItself.k =
    rw (c.in-OnItself.is, c.deref.ensures.value) at c.in_ok-order.ensures.placed in
    then_gives circuit c.on_itself_at.result _ _ _ c.in_ok-outputs.ensures
    (then_gives circuit c.on_itself_at.result _ _ _ c.in_ok-gates.ensures
    (gives_as circuit c.on_itself_at.result _ _ (λ r e. looped c.in-OnItself.k first e) c.on_itself_at.ensures))
