use Rattle.std.proofs.Common.{◌≡◌, ◌≤◌, ◌++◌, ◌∷◌, [], ℕ, false, length, map, replicate, eqb, sym, ap, ◌∙◌, subst, rules, tests, arith}
use Rattle.std.proofs.lemmas.List.{length_push}
use Rattle.std.proofs.lemmas.Iterator.Splits.{YieldsList-from_slice_split}
use Rattle.std.proofs.lemmas.Iterator.Consumers.{YieldsList-turn, YieldsList-end}
use Rattle.lattice.specs.Words.{has}
use Rattle.pla_reader.specs.Orders.{file_order, position_named}
use Rattle.aig_inputs.specs.Names.{AreInputs, inverted_named}
use Rattle.aig_inputs.proofs.Naming.{no_marks, more_marks, marks_are, none_named, more_named, first_named}
use Rattle.aig_inputs.proofs.Naming.{one_more, is_known, is_new, all_named}
use Rattle.aig_inputs.proofs.inverted.read_inverted.Goals as goal
use Rattle.aig_inputs.proofs.inverted.read_inverted.Goals.{then-position-names-via-then-position-names}
use Rattle.aig_inputs.proofs.inverted.read_inverted.Goals.{then-position-names-via-else-position-names+then-index}

pub loop-name-init : goal.loop-name-init
loop-name-init c =
    let n : ℕ = length c.args.names.now in
    let items : c.in_ok-inverted.inverted.items ≡ replicate n false = search rules in
    record { inputs = none_named n; marks = rw items (no_marks n) }

pub returns-then-position-names-clause-bad : goal.returns-then-position-names-clause-bad
unfolding position_named
returns-then-position-names-clause-bad c =
    let names = c.args.names.now in let text = c.args.text.now in let k = length c.loop-name.yielded in
    let turn = YieldsList-turn (YieldsList-from_slice_split _ (λ byte. eqb byte 44) text (search rules) (search rules)
    (search rules) (λ x b q k. search (rules, tests))) c.loop-name.yielded _ c.loop-name.yielded_by _ _ c.in-Some.name c.in-Some.is
    c.next.ensures.steps in
    let p = c.position_of-position.result in let is = c.position_of-position.ensures in
    λ bad good. elim c.then-position-names.branch [
      | then-position-names-via-then-position-names w ↦
          omega (arith, is_known names text k c.in-Some.name.now turn.0 turn.1 good, is, w.if-position-names.true)
      | then-position-names-via-else-position-names+then-index w ↦
          let mark = c.loop-name.invariant.marks.each p w.index.result.now (omega (arith, is)) w.if-position-names.false in
          is_new names text k c.in-Some.name.now turn.0 turn.1 good
          (ap (has (first_named names text k)) (sym is) ∙ sym mark ∙ sym w.index.ensures ∙ w.if-index.true)
    ]

pub loop-name-preserved : goal.loop-name-preserved
unfolding position_named
loop-name-preserved c =
    let names = c.args.names.now in let text = c.args.text.now in let k = length c.loop-name.yielded in
    let turn = YieldsList-turn (YieldsList-from_slice_split _ (λ byte. eqb byte 44) text (search rules) (search rules)
    (search rules) (λ x b q k. search (rules, tests))) c.loop-name.yielded _ c.loop-name.yielded_by _ _ c.in-Some.name c.in-Some.is
    c.next.ensures.steps in
    let p = c.position_of-position.result in let is = c.position_of-position.ensures in
    let few = c.if-position-names.false in let some : 1 ≤ p = omega (arith, is) in
    let before = first_named names text k in let marks = c.loop-name.invariant.marks in
    let none = sym (marks.each p c.index.result.now some few) ∙ sym c.index.ensures ∙ c.if-index.false in
    let here = ap (first_named names text) (length_push c.loop-name.yielded c.in-Some.name)
    ∙ one_more names text k c.in-Some.name.now turn.0 turn.1 ∙ ap (λ q. before ++ q ∷ []) (sym is) in record {
      inputs = rw here (more_named (length names) before p c.loop-name.invariant.inputs few none);
      marks = rw here (more_marks (length names) before c.loop-name.inverted.items p marks some few);
    }

pub returns : goal.returns
unfolding inverted_named
returns c =
    let names = c.args.names.now in let text = c.args.text.now in let k = length c.loop-name.yielded in
    let end = YieldsList-end (YieldsList-from_slice_split _ (λ byte. eqb byte 44) text (search rules) (search rules)
    (search rules) (λ x b q k. search (rules, tests))) c.loop-name.yielded _ c.loop-name.yielded_by _ _ c.in-None.is c.next.ensures.steps in
    let all = all_named names text k (omega (arith, end.1)) in let marks = c.loop-name.invariant.marks in record {
      named = marks_are (length names) (first_named names text k) c.loop-name.inverted.items marks
          ∙ ap (λ ps. map (has ps) (file_order (length names))) all;
      count = omega (arith, marks.count);
      good = subst (AreInputs (length names)) all c.loop-name.invariant.inputs;
      bad = search rules;
    }
