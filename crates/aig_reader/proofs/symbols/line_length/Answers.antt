use Rattle.std.proofs.Common.{◌==◌, rules, tests}
use Rattle.std.proofs.lemmas.Iterator.{YieldsList-from_slice}
use Rattle.std.proofs.lemmas.Iterator.Search.{position_from_yields_List}
use Rattle.lattice.proofs.Polynomials.{first_or_len}
use Rattle.aig_reader.proofs.symbols.line_length.Goals as goal

pub returns-clause-count : goal.returns-clause-count
returns-clause-count c =
    rw c.unwrap_or.ensures (first_or_len (λ b. b == 10) _ _ (position_from_yields_List (λ b. b == 10) _ _ _
    c.position.ensures.ran (YieldsList-from_slice c.args.bytes.now cc) (λ x b q k. search (rules, tests))))
