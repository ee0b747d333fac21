use Rattle.aig_reader.specs.Reading.{names}
use Rattle.aig_reader.proofs.Circuits.{binary_fits}
use Rattle.aig_reader.proofs.reading.binary_at.Goals as goal

pub invariant_of-result : goal.invariant_of-result
invariant_of-result c =
    let symbols = rw c.in_ok-names.ensures at c.in_ok-add_symbols.ensures in record {
      fits = rw (c.from_vec.ensures, c.from_vec-2.ensures, c.from_vec-3.ensures, c.from_vec-4.ensures)
          (binary_fits c.in_ok-sizes.sizes c.in_ok-sizes.ensures.few _ _ _ _ _ (names c.add_symbols.new.self) symbols c.if-sizes.false
          c.in_ok-outputs.ensures c.in_ok-gates.ensures);
    }
