use Rattle.std.proofs.Common.{◌≡◌, ◌==◌, ◌+◌, [], ◌∷◌, ◌<◌, ◌&&◌, true, false, length, get_or, drop, codes, arith, sym}
use Rattle.std.specs.List.{list_all}
use Rattle.std.proofs.lemmas.Bool.Decides.{nat_tests}
use Rattle.std.proofs.lemmas.List.{take_all, drop_all}
use Rattle.pla_reader.specs.Description.{has_off, has_dc}
use Rattle.pla_reader.specs.Grammar.{symbols, is_one_of}
use Rattle.pla_reader.proofs.Symbols.{symbols_at, symbols_nil, one_left, one_bad, next_good, next_dropped, mask_next, none_left}
use Rattle.pla_reader.proofs.row.marks_of.Goals as goal
use Rattle.pla_reader.proofs.row.marks_of.Goals.{then-is_output_symbol+else-place-outputs, else-is_output_symbol+else-is_symbol}

pub returns-then-is_symbol : goal.returns-then-is_symbol
returns-then-is_symbol c =
    let line = c.args.line.now in let all = symbols line in let i = c.loop-byte.byte-index in
    let at = symbols_at line i c.loop-byte-test.true in
    let next : drop c.loop-byte.place all ≡ get_or line i 0 ∷ symbols (drop (i + 1) line) = (let is = c.is_symbol.ensures in grind arith) in
    let bad : list_all (is_one_of (codes "01-~24")) all ≡ false = one_bad all _ _ _ next _ (let is = c.is_output_symbol.ensures in cc) in
    grind arith

pub loop-byte-preserved : goal.loop-byte-preserved
loop-byte-preserved c =
    let line = c.args.line.now in let all = symbols line in let i = c.loop-byte.byte-index in let place = c.loop-byte.place in
    let so_far = c.loop-byte.invariant in let at = symbols_at line i c.loop-byte-test.true in
    elim c.if-is_output_symbol.branch [
      | then-is_output_symbol+else-place-outputs w ↦
          let symbol = get_or line i 0 in let few : place < 64 = omega arith in
          let next : drop place all ≡ symbol ∷ symbols (drop (i + 1) line) = grind arith in
          let good : is_one_of (codes "01-~24") symbol ≡ true = cc in
          rw (w.marks-is, w.place-is) (record {
            few = omega arith;
            enough = omega (arith, one_left all place _ _ next);
            others = sym (next_dropped all place _ _ next);
            good = rw (next_good all place _ _ next, so_far.good, good);
            on = mask_next (is_one_of (codes "14")) all place symbol _ next few _ _ so_far.on (grind arith);
            off = mask_next (λ s. has_off c.args.kind && is_one_of (codes "0") s) all place symbol _ next few _ _ so_far.off (grind arith);
            dc = mask_next (λ s. has_dc c.args.kind && is_one_of (codes "-2") s) all place symbol _ next few _ _ so_far.dc (grind arith);
          })
      | else-is_output_symbol+else-is_symbol w ↦ grind arith
    ]

pub returns-then-place-outputs-2 : goal.returns-then-place-outputs-2
returns-then-place-outputs-2 c =
    let line = c.args.line.now in let all = symbols line in let place = c.loop-byte.place in
    let none : drop place all ≡ [] = rw (sym c.loop-byte.invariant.others, drop_all _ line c.loop-byte-test.false) symbols_nil in
    let few = none_left all place none in let whole = rw (take_all place all few) at c.loop-byte.invariant in
    let count : (length all == c.args.outputs) ≡ true = grind (arith, nat_tests) in rw (count, whole.good, whole.on, whole.off, whole.dc)
