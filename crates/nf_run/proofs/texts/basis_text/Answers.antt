use Rattle.std.proofs.Common.{◌∙◌, ap, map, reverse}
use Rattle.anf_printer.specs.Text.{shown_line}
use Rattle.nf_run.proofs.PrintedLines.{basis_lines_over, lines_over}
use Rattle.nf_run.proofs.texts.basis_text.Goals as goal

pub lines_text-requires : goal.lines_text-requires
lines_text-requires c =
    let p = c.args.p.now in
    lines_over p.inputs p.outputs c.deref.result.now _ (ap (map shown_line) c.deref.ensures.value ∙ c.in_ok-lines.ensures)
    (basis_lines_over p.inputs p.outputs (map reverse c.args.basis.now) c.requires)
