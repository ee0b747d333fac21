use Rattle.std.proofs.Common.{◌≡◌, ◌-◌, length}
use Rattle.aig_reader.specs.Reading.{names, symbols_at}
use Rattle.aig_reader.proofs.symbols.Table.add_symbols.Given as goal

abbrev pub invariant-loop : goal.invariant-loop
invariant-loop l = symbols_at (length l.bytes - l.counter) (names l.self) l.rest
    ≡ symbols_at (length l.bytes) (names l.initial.self) l.bytes
