use Rattle.std.proofs.Common.{◌≡◌, ◌≤◌, true, take, drop, length, codes}
use Rattle.std.specs.List.{list_all}
use Rattle.pla_reader.specs.Grammar.{symbols, is_one_of}
use Rattle.pla_reader.specs.Reading.{input_mask}
use Rattle.pla_reader.proofs.row.cube_of.Given as goal

abbrev pub invariant-loop-seen : goal.invariant-loop-seen
invariant-loop-seen l = record {
  few : l.seen ≤ l.inputs;
  enough : l.seen ≤ length (symbols l.line);
  others : symbols l.rest ≡ drop l.seen (symbols l.line);
  good : list_all (is_one_of (codes "01-2")) (take l.seen (symbols l.line)) ≡ true;
  care : l.cube.care ≡ input_mask (is_one_of (codes "01")) (take l.seen (symbols l.line));
  value : l.cube.value ≡ input_mask (is_one_of (codes "1")) (take l.seen (symbols l.line));
}

abbrev pub decreases-loop-seen : goal.decreases-loop-seen
decreases-loop-seen l = length l.rest
