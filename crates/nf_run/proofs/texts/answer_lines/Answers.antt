use Rattle.std.proofs.Common.{◌∙◌, ◌∷◌, ◌++◌, [], ap, length, length-append, map, reverse, rules, sym}
use Rattle.std.proofs.lemmas.List.{map_push}
use Rattle.std.proofs.lemmas.Slice.Zip.{zip_turn}
use Rattle.anf_printer.specs.Text.{shown_line}
use Rattle.anf_printer.specs.declared.lines.Left.TheVariants.{Output}
use Rattle.nf_run.proofs.PrintedLines.{lines_more}
use Rattle.nf_run.proofs.texts.answer_lines.Goals as goal

pub loop-query-preserved : goal.loop-query-preserved
loop-query-preserved c =
    let turn = zip_turn c.args.queries.now c.args.answers.now c.loop-query.yielded c.into_iter-query-iterator.result
    c.loop-query.query-iterator c.next.new.self c.next.result (search rules) (search rules) c.loop-query.yielded_by
    (c.in-Some.query, c.in-Some.terms) c.in-Some.is c.next.ensures.steps in
    let here = length c.loop-query.yielded in
    let more = lines_more c.args.queries.now c.args.answers.now here _ c.in-Some.query.now c.in-Some.terms.now turn.0 turn.1
    (turn.2 c.in-Some.query.now) (turn.3 c.in-Some.terms.now)
    (length-append c.loop-query.yielded ((c.in-Some.query, c.in-Some.terms) ∷ [])) in
    let pushed = ap (map shown_line) c.in_ok-push.ensures.items ∙ map_push shown_line c.loop-query.lines.items _ in
    pushed ∙ (ap (λ ls. ls ++ (Output c.in-Some.query.now.output, reverse c.as_slice.result.now) ∷ []) c.loop-query.invariant
    ∙ rw c.as_slice.ensures (sym more))
