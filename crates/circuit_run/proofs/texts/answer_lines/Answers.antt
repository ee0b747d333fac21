use Rattle.std.proofs.Common.{◌∙◌, ◌∷◌, ◌++◌, [], ap, length, length-append, map, reverse, rules, sym}
use Rattle.std.proofs.lemmas.List.{map_push}
use Rattle.std.proofs.lemmas.Slice.Zip.{zip_turn}
use Rattle.anf_printer.specs.Text.{shown_line}
use Rattle.anf_printer.specs.declared.lines.Left.TheVariants.{Output}
use Rattle.circuit_run.proofs.PrintedLines.{lines_more}
use Rattle.circuit_run.proofs.texts.answer_lines.Goals as goal

pub loop-number-preserved : goal.loop-number-preserved
loop-number-preserved c =
    let turn = zip_turn c.args.numbers.now c.args.answers.now c.loop-number.yielded c.into_iter-number-iterator.result
    c.loop-number.number-iterator c.next.new.self c.next.result (search rules) (search rules) c.loop-number.yielded_by
    (c.in-Some.number, c.in-Some.terms) c.in-Some.is c.next.ensures.steps in
    let here = length c.loop-number.yielded in
    let more = lines_more c.args.numbers.now c.args.answers.now here _ c.in-Some.number.now c.in-Some.terms.now turn.0 turn.1
    (turn.2 c.in-Some.number.now) (turn.3 c.in-Some.terms.now)
    (length-append c.loop-number.yielded ((c.in-Some.number, c.in-Some.terms) ∷ [])) in
    let pushed = ap (map shown_line) c.in_ok-push.ensures.items ∙ map_push shown_line c.loop-number.lines.items _ in
    pushed ∙ (ap (λ ls. ls ++ (Output c.in-Some.number.now, reverse c.as_slice.result.now) ∷ []) c.loop-number.invariant
    ∙ rw c.as_slice.ensures (sym more))
