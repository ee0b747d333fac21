use Rattle.std.proofs.Common.{◌+◌, Bool, eqb, ap, ◌∙◌, ℕ, rules, tests}
use Rattle.std.proofs.lemmas.Iterator.{YieldsList-from_slice}
use Rattle.std.proofs.lemmas.Iterator.Search.{position_from_yields_List}
use Rattle.lattice.proofs.Polynomials.{first_or_len}
use Rattle.aig_inputs.specs.Arranged.{variable_of}
use Rattle.aig_inputs.proofs.arranging.variable_of.Goals as goal

pub returns-clause-variable : goal.returns-clause-variable
unfolding variable_of
returns-clause-variable c =
    let is_it : ℕ → Bool = λ other. eqb other c.args.position in
    ap (λ k. k + 1) (c.unwrap_or-place.ensures ∙ first_or_len is_it _ _ (position_from_yields_List is_it _ _ _ c.position.ensures.ran
    (YieldsList-from_slice c.args.order.now cc) (λ x b q k. search (rules, tests))))
