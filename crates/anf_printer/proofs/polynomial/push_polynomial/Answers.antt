use Rattle.std.proofs.Common.{length, arith, rules}
use Rattle.std.proofs.lemmas.Grind.{common_steps}
use Rattle.anf_printer.proofs.Texts.{polynomial_text_none, polynomial_text_some, others_below}
use Rattle.anf_printer.proofs.polynomial.push_polynomial.Goals as goal

pub returns-in_ok-push-in-empty : goal.returns-in_ok-push-in-empty
returns-in_ok-push-in-empty c = search (rules, arith, polynomial_text_none)

pub push_terms-requires-clause-others : goal.push_terms-requires-clause-others
push_terms-requires-clause-others c = others_below (length c.args.names.now) c.args.terms.now c.requires

pub returns-in_ok-push_terms-in-len1-up : goal.returns-in_ok-push_terms-in-len1-up
returns-in_ok-push_terms-in-len1-up c = let some = polynomial_text_some c.args.names.now c.args.terms.now c.first-item.result
    c.in-len1-up.len_at_least c.first-item.is in grind (arith, common_steps)
