use Rattle.std.proofs.Common.{◌≡◌, ◌*◌, ◌%◌, ◌^◌, arith}
use Rattle.anf_printer.proofs.Places.{variables_of_first, weight_is_below}
use Rattle.anf_printer.proofs.factors.first_variable.Goals as goal

pub overflow_sub-name-2 : goal.overflow_sub-name-2
overflow_sub-name-2 c = let few = weight_is_below _ _ _ c.ilog2-behind.ensures.power_le c.requires.below in omega arith

pub returns-clause-first : goal.returns-clause-first
returns-clause-first c =
    let few = weight_is_below _ _ _ c.ilog2-behind.ensures.power_le c.requires.below in
    let weight : 1 * 2 ^ c.ilog2-behind.result % 2 ^ 64 ≡ 2 ^ c.ilog2-behind.result = omega arith in
    rw (weight, c.as_slice.ensures)
    (variables_of_first _ _ _ _ c.ilog2-behind.ensures.power_le c.ilog2-behind.ensures.next_power_gt few c.index-names-names.is)
