use Rattle.std.proofs.Common.{◌≡◌, ◌≤◌, ◌&&◌, true, take, drop, length, codes}
use Rattle.std.specs.List.{list_all}
use Rattle.pla_reader.specs.Description.{has_off, has_dc}
use Rattle.pla_reader.specs.Grammar.{symbols, is_one_of}
use Rattle.pla_reader.specs.Reading.{output_mask}
use Rattle.pla_reader.proofs.row.marks_of.Given as goal

abbrev pub invariant-loop-byte : goal.invariant-loop-byte
invariant-loop-byte l = record {
  few : l.place ≤ l.outputs;
  enough : l.place ≤ length (symbols l.line);
  others : symbols (drop l.byte-index l.line) ≡ drop l.place (symbols l.line);
  good : list_all (is_one_of (codes "01-~24")) (take l.place (symbols l.line)) ≡ true;
  on : l.marks.on ≡ output_mask (is_one_of (codes "14")) (take l.place (symbols l.line));
  off : l.marks.off ≡ output_mask (λ s. has_off l.kind && is_one_of (codes "0") s) (take l.place (symbols l.line));
  dc : l.marks.dc ≡ output_mask (λ s. has_dc l.kind && is_one_of (codes "-2") s) (take l.place (symbols l.line));
}
