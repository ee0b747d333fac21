use Rattle.std.proofs.Common.{[], ◌∷◌, length, sym, ◌∙◌, subst, rules, arith}
use Rattle.std.proofs.lemmas.Grind.{common_steps}
use Rattle.std.proofs.lemmas.List.{length-append}
use Rattle.std.proofs.lemmas.Slice.Zip.{zip_turn}
use Rattle.anf_printer.specs.Text.{IsAnswerOver, shown_answer}
use Rattle.anf_printer.proofs.Texts.{texts_of_none, texts_of_next}
use Rattle.anf_printer.proofs.answer.texts_of.Goals as goal

pub loop-name-init : goal.loop-name-init
loop-name-init c = c.new-pages.ensures ∙ sym (texts_of_none c.args.mode c.args.names.now c.args.outputs.now [])

pub output_text-requires : goal.output_text-requires
output_text-requires c =
    let turn = zip_turn c.args.outputs.now c.args.shown.now _ c.into_iter-name-iterator.result c.loop-name.name-iterator c.next.new.self
    c.next.result (search rules) (search rules) c.loop-name.yielded_by (c.in-Some.name, c.in-Some.output) c.in-Some.is
    c.next.ensures.steps in
    subst (λ s. IsAnswerOver (length c.args.names.now) (shown_answer s)) (sym (turn.3 c.in-Some.output.now))
    (c.requires.families (length c.loop-name.yielded) c.in-Some.output.now turn.1)

pub loop-name-preserved : goal.loop-name-preserved
loop-name-preserved c =
    let turn = zip_turn c.args.outputs.now c.args.shown.now _ c.into_iter-name-iterator.result c.loop-name.name-iterator c.next.new.self
    c.next.result (search rules) (search rules) c.loop-name.yielded_by (c.in-Some.name, c.in-Some.output) c.in-Some.is
    c.next.ensures.steps in
    let next = texts_of_next c.args.mode c.args.names.now c.args.outputs.now c.args.shown.now _ _ c.in-Some.name.now c.in-Some.output.now
    turn.0 turn.1 (turn.2 c.in-Some.name.now) (turn.3 c.in-Some.output.now)
    (length-append c.loop-name.yielded ((c.in-Some.name, c.in-Some.output) ∷ [])) in
    grind (arith, common_steps)
