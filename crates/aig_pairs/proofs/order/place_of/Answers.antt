use Rattle.std.proofs.Common.{Bool, List, bytes_eq, rules, tests, ℕ}
use Rattle.std.proofs.lemmas.Iterator.{YieldsList-from_slice}
use Rattle.std.proofs.lemmas.Iterator.Search.{position_from_yields_List}
use Rattle.aig_pairs.proofs.order.place_of.Goals as goal

pub returns : goal.returns
returns c =
    let is_it : List ℕ → Bool = λ other. bytes_eq other c.args.name.now in
    position_from_yields_List is_it _ _ _ c.position.ensures.ran (YieldsList-from_slice c.args.names.now cc)
    (λ x b q k. search (rules, tests))
