use Rattle.std.proofs.Common.{◌≤◌, arith, length, refl}
use Rattle.aig_pairs.specs.Pairs.{in_parts}
use Rattle.aig_pairs.proofs.Parts.{within, read_behind}
use Rattle.aig_pairs.proofs.pairs.read_pair.Goals as goal

pub slice_bounds-read-count : goal.slice_bounds-read-count
slice_bounds-read-count c =
    let found = rw c.in-Some.is at c.in_ok-first.ensures in omega (arith, within c.args.bytes.now c.in-Some.at found.part.parted)

pub slice_bounds-read-start : goal.slice_bounds-read-start
slice_bounds-read-start c =
    let found = rw c.in-Some.is at c.in_ok-first.ensures in
    let inside : c.in-Some.at ≤ length c.args.bytes.now = omega (arith, within c.args.bytes.now c.in-Some.at found.part.parted) in inside

pub returns-in-Ok : goal.returns-in-Ok
returns-in-Ok c =
    in_parts c.in-Some.at _ _ (rw c.in-Some.is at c.in_ok-first.ensures)
    (read_behind c.args.bytes.now c.in-Some.at _ c.in-Ok.ensures) refl

pub returns-in-Err-Bad : goal.returns-in-Err-Bad
returns-in-Err-Bad c =
    in_parts c.in-Some.at _ _ (rw c.in-Some.is at c.in_ok-first.ensures)
    (read_behind c.args.bytes.now c.in-Some.at _ (rw c.in-Err-Bad.field-0-is at c.in-Err-Bad.ensures)) refl
