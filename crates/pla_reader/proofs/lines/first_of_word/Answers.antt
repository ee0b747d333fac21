use Rattle.std.proofs.Common.{not, rules, tests}
use Rattle.std.proofs.lemmas.Iterator.{YieldsList-from_slice}
use Rattle.std.proofs.lemmas.Iterator.Search.{position_from_yields_List}
use Rattle.pla_reader.specs.Lines.{is_blank}
use Rattle.lattice.proofs.Polynomials.{first_or_len}
use Rattle.pla_reader.proofs.lines.first_of_word.Goals as goal

pub returns-clause-place : goal.returns-clause-place
returns-clause-place c =
    rw c.unwrap_or.ensures (first_or_len (λ b. not (is_blank b)) _ _ (position_from_yields_List (λ b. not (is_blank b)) _ _ _
    c.position.ensures.ran (YieldsList-from_slice c.args.line.now cc) (λ x b q k. search (rules, tests))))
