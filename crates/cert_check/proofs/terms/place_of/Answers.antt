use Rattle.std.proofs.Common.{rules, tests, bytes_eq}
use Rattle.std.proofs.lemmas.Iterator.{YieldsList-from_slice}
use Rattle.std.proofs.lemmas.Iterator.Search.{position_from_yields_List}
use Rattle.lattice.proofs.Polynomials.{first_or_len}
use Rattle.cert_check.proofs.terms.place_of.Goals as goal

pub returns : goal.returns
returns c =
    let names = c.args.names.now in
    let found = position_from_yields_List (λ other. bytes_eq other c.args.name.now) _ _ c.position.result
    c.position.ensures.ran (YieldsList-from_slice names cc) (λ x b q k. search (rules, tests)) in
    rw c.unwrap_or.ensures (first_or_len (λ other. bytes_eq other c.args.name.now) names c.position.result found)
