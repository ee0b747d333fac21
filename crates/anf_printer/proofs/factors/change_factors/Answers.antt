use Rattle.std.proofs.Common.{◌+◌, ◌-◌, arith}
use Rattle.std.proofs.lemmas.Grind.{common_steps, pow_more}
use Rattle.anf_printer.proofs.Places.{factors_masked, factors_cut, same_from}
use Rattle.anf_printer.proofs.factors.change_factors.Goals as goal

pub factors_len-requires-clause-fits : goal.factors_len-requires-clause-fits
factors_len-requires-clause-fits c = let parts = factors_masked c.args.names.now c.args.from c.ilog2.result c.ilog2.ensures.bound in
    grind (arith, common_steps, parts)

pub overflow_sub-len : goal.overflow_sub-len
overflow_sub-len c = let parts = factors_masked c.args.names.now c.args.from c.ilog2.result c.ilog2.ensures.bound in
    grind (arith, common_steps, parts)

pub returns : goal.returns
returns c = let parts = factors_masked c.args.names.now c.args.from c.ilog2.result c.ilog2.ensures.bound in
    let parts' = factors_masked c.args.names.now c.args.to c.ilog2.result c.ilog2.ensures.bound in
    let double = pow_more 2 c.ilog2.result in
    let same = same_from c.args.from c.args.to (c.ilog2.result + 1) (omega arith) in
    let kept = factors_cut c.args.names.now c.args.from c.ilog2.result (c.len.result - c.factors_len.result) c.args.text.now.items
    c.ilog2.ensures.bound c.requires.text (grind (arith, common_steps, parts)) in
    grind (arith, common_steps, parts', same, kept)
