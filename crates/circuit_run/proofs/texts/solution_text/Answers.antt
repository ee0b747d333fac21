use Rattle.std.proofs.Common.{◌∙◌, codes, sym}
use Rattle.circuit_run.proofs.PrintedLines.{answered_numbers}
use Rattle.circuit_run.proofs.Seeing.{count_names}
use Rattle.circuit_run.proofs.texts.solution_text.Goals as goal

pub polynomials_text-requires-clause-numbers : goal.polynomials_text-requires-clause-numbers
polynomials_text-requires-clause-numbers c =
    let aig = c.args.seen.now.aig in
    let named = count_names (codes "f") c.len-count.result aig.out_names c.printed-outputs.result.now _
    (aig.fits.out_count ∙ sym c.len-count.ensures) c.printed-outputs.ensures c.in_ok-in_place.ensures in
    rw (c.deref.ensures.value ∙ c.in_ok-numbers.ensures, named) (answered_numbers c.len-count.result c.args.seen.now.care)

pub polynomials_text-requires-clause-answers : goal.polynomials_text-requires-clause-answers
polynomials_text-requires-clause-answers c = rw (c.as_slice-names.ensures, c.requires.whole.names) c.requires.polynomials

pub polynomials_text-requires-clause-basis : goal.polynomials_text-requires-clause-basis
polynomials_text-requires-clause-basis c = rw (c.as_slice-names.ensures, c.requires.whole.names) c.requires.basis
