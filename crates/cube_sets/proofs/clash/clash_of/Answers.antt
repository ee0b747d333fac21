use Rattle.std.proofs.Common.{◌<◌, ◌^◌, bit_and, arith}
use Rattle.std.specs.Int.{w64, trailing_zeros}
use Rattle.std.specs.Int.Bits.{and_lt}
use Rattle.std.proofs.lemmas.Nat.Bits.{bit_at-trailing_zeros}
use Rattle.cube_sets.proofs.Pairs.{none_without_output, none_up_to, least_of_pair}
use Rattle.cube_sets.proofs.clash.clash_of.Goals as goal

pub returns-then-both-eq0 : goal.returns-then-both-eq0
returns-then-both-eq0 c n a_below b_below d clash = none_without_output n c.args.a.now c.args.b.now c.if-both-eq0.true d clash.1

pub returns-then-output-outputs : goal.returns-then-output-outputs
returns-then-output-outputs c n a_below b_below d clash =
    let both = bit_and c.args.a.now.on c.args.b.now.off in
    let small : both < 2 ^ 64 = and_lt 64 c.args.a.now.on c.args.b.now.off (omega arith) (omega arith) in
    none_up_to n c.args.a.now c.args.b.now (trailing_zeros w64 both) (bit_at-trailing_zeros w64 both (omega arith) small).2 c.args.outputs
    c.if-output-outputs.true d clash.0 clash.1

pub returns : goal.returns
returns c n a_below b_below =
    let both = bit_and c.args.a.now.on c.args.b.now.off in
    let small : both < 2 ^ 64 = and_lt 64 c.args.a.now.on c.args.b.now.off (omega arith) (omega arith) in
    let lowest = bit_at-trailing_zeros w64 both (omega arith) small in
    least_of_pair n c.args.a.now c.args.b.now (trailing_zeros w64 both) lowest.2 c.args.outputs lowest.1 c.if-output-outputs.false
    ((c.meets.ensures n a_below b_below).0 c.if-not-meets.false)
