use Rattle.std.proofs.Common.{◌∙◌, ◌++◌, ap, length, map, reverse}
use Rattle.anf_printer.specs.Text.{shown_line}
use Rattle.anf_printer.specs.declared.lines.Left.TheVariants.{Zero}
use Rattle.circuit_run.proofs.PrintedLines.{lines_over}
use Rattle.circuit_run.proofs.texts.polynomials_text.Goals as goal

pub lines_with-requires : goal.lines_with-requires
lines_with-requires c =
    let basis = map (λ element. (Zero, element)) (map reverse c.args.basis.now) in
    lines_over (length c.args.names.now) (length c.args.outputs.now) c.args.numbers.now c.args.answers.now c.args.basis.now
    c.deref.result.now (ap (map shown_line) c.deref.ensures.value ∙ (c.in_ok-push_basis_lines.ensures
    ∙ ap (λ lines. lines ++ basis) c.in_ok-lines.ensures)) c.requires.numbers c.requires.answers c.requires.basis
