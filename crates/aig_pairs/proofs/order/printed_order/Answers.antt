use Rattle.std.proofs.Common.{◌∙◌, arith, subst, sym}
use Rattle.pla_reader.proofs.ArrangedInputs.{count_printed}
use Rattle.aig_pairs.proofs.Naming.{AreDifferent, printed_differ}
use Rattle.aig_pairs.proofs.order.printed_order.Goals as goal

pub order_of-requires-clause-few : goal.order_of-requires-clause-few
order_of-requires-clause-few c =
    let count = count_printed c.args.letter.now _ _ _ _ (λ some. sym c.len-2.ensures) c.printed.ensures
    c.in_ok-second_in_place.ensures in omega (arith, count, c.len-2.ensures, c.requires.second)

pub order_of-requires-clause-distinct : goal.order_of-requires-clause-distinct
order_of-requires-clause-distinct c =
    subst AreDifferent (sym (c.printed-wanted.ensures ∙ c.in_ok-first_in_place.ensures))
    (printed_differ c.args.letter.now _ _ (omega (arith, c.len.ensures, c.requires.first)))
