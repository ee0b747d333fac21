use Rattle.aig_reader.specs.Order.{ordered}
use Rattle.aig_reader.specs.Reading.{names}
use Rattle.aig_reader.proofs.Ordering.{ordered_fits}
use Rattle.aig_reader.proofs.reading.ordered_at.Goals as goal

pub invariant_of-result : goal.invariant_of-result
invariant_of-result c =
    let symbols = rw c.in_ok-names.ensures at c.in_ok-add_symbols.ensures in record {
      fits = rw (c.from_vec.ensures, c.from_vec-2.ensures, c.from_vec-3.ensures, c.from_vec-4.ensures)
          (ordered_fits c.args.sizes c.requires.few c.args.outputs.now (ordered c.args.order) c.requires.sound _
          (names c.add_symbols.new.self) symbols _ c.in_ok-outputs.ensures);
    }
