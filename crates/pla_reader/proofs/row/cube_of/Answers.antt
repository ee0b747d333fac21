use Rattle.std.proofs.Common.{◌≡◌, ◌∷◌, drop, arith}
use Rattle.pla_reader.specs.Grammar.{symbols}
use Rattle.pla_reader.proofs.Symbols.{symbols_cons, next_taken, next_dropped, next_good, one_left, input_mask_push}
use Rattle.pla_reader.proofs.row.cube_of.Goals as goal

pub loop-seen-preserved-then-is_input_symbol : goal.loop-seen-preserved-then-is_input_symbol
loop-seen-preserved-then-is_input_symbol c =
    let all = symbols c.args.line.now in let seen = c.loop-seen.seen in let is = c.in_ok-byte.ensures in
    let next : drop seen all ≡ c.in_ok-byte.byte.now ∷ symbols c.in_ok-byte.after.now = grind (arith, symbols_cons) in
    grind (arith, one_left, next_taken, next_dropped, next_good, input_mask_push)
