use Rattle.std.proofs.Common.{◌∙◌, codes, sym}
use Rattle.circuit_run.proofs.PrintedLines.{answered_numbers}
use Rattle.circuit_run.proofs.Seeing.{count_names}
use Rattle.circuit_run.proofs.equal.equal_text.Goals as goal

pub equal_lines-requires-clause-numbers : goal.equal_lines-requires-clause-numbers
equal_lines-requires-clause-numbers c =
    let aig = c.args.seen.now.aig in
    let named = count_names (codes "f") c.len-count.result aig.out_names c.printed-outputs.result.now _
    (aig.fits.out_count ∙ sym c.len-count.ensures) c.printed-outputs.ensures c.in_ok-in_place.ensures in
    rw (c.deref.ensures.value ∙ c.in_ok-numbers.ensures, named) (answered_numbers c.len-count.result c.args.seen.now.care)
