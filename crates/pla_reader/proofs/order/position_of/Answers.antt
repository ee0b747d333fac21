use Rattle.std.proofs.Common.{◌+◌, Bool, bytes_eq, ap, ◌∙◌, List, ℕ, rules, tests}
use Rattle.std.proofs.lemmas.Iterator.{YieldsList-from_slice}
use Rattle.std.proofs.lemmas.Iterator.Search.{position_from_yields_List}
use Rattle.pla_reader.specs.Orders.{position_named}
use Rattle.lattice.proofs.Polynomials.{first_or_len}
use Rattle.pla_reader.proofs.order.position_of.Goals as goal

pub returns : goal.returns
unfolding position_named
returns c =
    let is_it : List ℕ → Bool = λ other. bytes_eq other c.args.name.now in
    ap (λ k. k + 1) (c.unwrap_or-place.ensures ∙ first_or_len is_it _ _ (position_from_yields_List is_it _ _ _ c.position.ensures.ran
    (YieldsList-from_slice c.args.names.now cc) (λ x b q k. search (rules, tests))))
