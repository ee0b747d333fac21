use Rattle.std.proofs.Common.{◌≡◌, arith, ap, ◌∙◌, sym, rules}
use Rattle.std.proofs.lemmas.Grind.{common_steps}
use Rattle.anf_printer.specs.Text.{product_text, factors_text}
use Rattle.anf_printer.proofs.Places.{monomial_text_factors}
use Rattle.anf_printer.proofs.polynomial.push_term.Goals as goal

pub returns-clause-text : goal.returns-clause-text
returns-clause-text c =
    let new : c.deref.result.now ≡ factors_text c.args.names.now c.args.term = search (rules, common_steps) in
    let text = monomial_text_factors c.args.names.now c.args.term c.requires.term ∙ ap product_text (sym new) in
    grind (arith, common_steps, text)
