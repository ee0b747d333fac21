use Rattle.pla_reader.proofs.order.order_of.Goals as goal
use Rattle.std.proofs.Common.{◌≤◌, ◌≢◌, length, eqb, sym, ap, ◌∙◌, subst, rules, tests, arith}
use Rattle.std.specs.List.{All, AllPairs}
use Rattle.std.proofs.lemmas.List.{length_push}
use Rattle.std.proofs.lemmas.List.Elements.{All-push}
use Rattle.std.proofs.lemmas.List.Quantifiers.{all_pairs_push}
use Rattle.std.proofs.lemmas.Iterator.Splits.{YieldsList-from_slice_split}
use Rattle.std.proofs.lemmas.Iterator.Consumers.{YieldsList-turn, YieldsList-end}
use Rattle.pla_reader.specs.Orders.{IsOrder, names_in_order, order_named}
use Rattle.pla_reader.proofs.Orders.{all_named, order_named_more, position_named_some, unknown_is_bad, twice_is_bad, names_in_order_named}
use Rattle.lattice.proofs.Polynomials.{none_before}
use Rattle.pla_reader.proofs.order.order_of.Goals.{then-position-names-via-then-position-names}
use Rattle.pla_reader.proofs.order.order_of.Goals.{then-position-names-via-else-position-names+then-contains}

pub returns-then-position-names-clause-bad : goal.returns-then-position-names-clause-bad
returns-then-position-names-clause-bad c =
    let turn = YieldsList-turn (YieldsList-from_slice_split _ (λ byte. eqb byte 44) c.args.text.now (search rules) (search rules)
    (search rules) (λ x b q k. search (rules, tests))) c.loop-name.yielded _ c.loop-name.yielded_by _ _ c.in-Some.name c.in-Some.is
    c.next.ensures.steps in
    let k = length c.loop-name.yielded in
    λ bad good. elim c.then-position-names.branch [
      | then-position-names-via-then-position-names w ↦
          unknown_is_bad c.args.names.now c.args.text.now k c.in-Some.name.now turn.0 turn.1
          (omega (arith, c.position_of-position.ensures, w.if-position-names.true)) good
      | then-position-names-via-else-position-names+then-contains w ↦
          twice_is_bad c.args.names.now c.args.text.now k c.in-Some.name.now turn.0 turn.1 w.as_slice.result.now
          c.position_of-position.result w.contains.result (w.as_slice.ensures ∙ c.loop-name.invariant.so_far) c.position_of-position.ensures
          w.contains.ensures.cases w.if-contains.true good
    ]

pub loop-name-preserved : goal.loop-name-preserved
loop-name-preserved c =
    let names = c.args.names.now in let text = c.args.text.now in
    let order = c.loop-name.order in let position = c.position_of-position.result in
    let pushed = c.in_ok-push.ensures.ok in
    let turn = YieldsList-turn (YieldsList-from_slice_split _ (λ byte. eqb byte 44) text (search rules) (search rules)
    (search rules) (λ x b q k. search (rules, tests))) c.loop-name.yielded _ c.loop-name.yielded_by _ _ c.in-Some.name c.in-Some.is
    c.next.ensures.steps in
    let here = c.position_of-position.ensures in
    let more = order_named_more names text (length c.loop-name.yielded) c.in-Some.name.now turn.0 turn.1 in
    let long = length_push c.loop-name.yielded c.in-Some.name in
    record {
      so_far = grind arith;
      positions = rw pushed (All-push (λ p. (1 ≤ p) × (p ≤ length names)) order position c.loop-name.invariant.positions
          (omega (arith, position_named_some names c.in-Some.name.now), omega (arith, c.if-position-names.false)));
      distinct = rw pushed (all_pairs_push (λ i j. i ≢ j) order position c.loop-name.invariant.distinct
          (none_before order position c.contains.result (rw c.as_slice.ensures at c.contains.ensures.cases) c.if-contains.false));
    }

pub returns-then-len-names : goal.returns-then-len-names
returns-then-len-names c =
    let names = c.args.names.now in
    let end = YieldsList-end (YieldsList-from_slice_split _ (λ byte. eqb byte 44) c.args.text.now (search rules) (search rules)
    (search rules) (λ x b q k. search (rules, tests))) c.loop-name.yielded _ c.loop-name.yielded_by _ _ c.in-None.is c.next.ensures.steps in
    let order = c.loop-name.invariant.so_far ∙ all_named names c.args.text.now (length c.loop-name.yielded) end.1 in
    let good : IsOrder (length names) (order_named names c.args.text.now) = record {
      count = sym (ap length order) ∙ sym c.len.ensures ∙ c.if-len-names.true;
      positions = subst (All (λ p. (1 ≤ p) × (p ≤ length names))) order c.loop-name.invariant.positions;
      distinct = subst (AllPairs (λ i j. i ≢ j)) order c.loop-name.invariant.distinct;
    } in
    record {
      order = order;
      good = good;
      names = ap (λ positions. names_in_order positions names) order ∙ names_in_order_named names c.args.text.now good;
      bad = search rules;
    }

pub returns-else-len-names-clause-bad : goal.returns-else-len-names-clause-bad
returns-else-len-names-clause-bad c =
    let names = c.args.names.now in
    let end = YieldsList-end (YieldsList-from_slice_split _ (λ byte. eqb byte 44) c.args.text.now (search rules) (search rules)
    (search rules) (λ x b q k. search (rules, tests))) c.loop-name.yielded _ c.loop-name.yielded_by _ _ c.in-None.is c.next.ensures.steps in
    let order = c.loop-name.invariant.so_far ∙ all_named names c.args.text.now (length c.loop-name.yielded) end.1 in
    λ bad good. c.if-len-names.false (c.len.ensures ∙ ap length order ∙ good.count)
