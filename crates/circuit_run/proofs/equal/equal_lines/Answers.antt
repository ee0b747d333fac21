use Rattle.std.proofs.Common.{◌≡◌, ◌∙◌, ◌∷◌, ◌++◌, [], ap, arith, length, length-append, rules, take}
use Rattle.std.proofs.lemmas.List.{get_or_default}
use Rattle.std.proofs.lemmas.Slice.Zip.{zip_turn}
use Rattle.anf_printer.specs.Text.{left_text}
use Rattle.anf_printer.specs.declared.lines.Left.TheVariants.{Output}
use Rattle.circuit_run.specs.Texts.{equal_line, equal_text}
use Rattle.circuit_run.proofs.PrintedLines.{found_more}
use Rattle.circuit_run.proofs.equal.equal_lines.Goals as goal

pub loop-number-preserved : goal.loop-number-preserved
loop-number-preserved c =
    let turn = zip_turn c.args.numbers.now c.args.points.now c.loop-number.yielded c.into_iter-number-iterator.result
    c.loop-number.number-iterator c.next.new.self c.next.result (search rules) (search rules) c.loop-number.yielded_by
    (c.in-Some.number, c.in-Some.point) c.in-Some.is c.next.ensures.steps in
    let here = length c.loop-number.yielded in let number = c.in-Some.number.now in let m = c.in-Some.point.now in
    let more = found_more (equal_line c.args.names.now) c.args.outputs.now c.args.numbers.now c.args.points.now here _ number m
    turn.0 turn.1 (turn.2 number) (turn.3 m) (length-append c.loop-number.yielded ((c.in-Some.number, c.in-Some.point) ∷ [])) in
    let name : c.as_slice-name.result.now ≡ left_text c.args.outputs.now (Output number) = grind (arith, get_or_default) in
    let so_far = equal_text c.args.names.now c.args.outputs.now (take here c.args.numbers.now) (take here c.args.points.now) in
    c.in_ok-push_equal_line.ensures ∙ (ap (λ text. text ++ equal_line c.args.names.now c.as_slice-name.result.now m) c.loop-number.invariant
    ∙ (ap (λ name. so_far ++ equal_line c.args.names.now name m) name ∙ more))
