use Rattle.std.proofs.Common.{◌≡◌, ◌+◌, arith}
use Rattle.std.proofs.lemmas.Grind.{common_steps}
use Rattle.aig_reader.specs.Ascii.{IsUpTo}
use Rattle.aig_reader.proofs.Circuits.{zeros_up_to, table_up_to}
use Rattle.aig_reader.proofs.reading.ascii_at.Goals as goal

pub by_table_at-requires-clause-up_to : goal.by_table_at-requires-clause-up_to
by_table_at-requires-clause-up_to c =
    let sizes = c.in_ok-sizes.sizes in let most = sizes.inputs + sizes.gates in
    let start : IsUpTo most c.deref_mut.result.now =
    rw (c.deref_mut.ensures.value, c.in_ok-table.ensures) (zeros_up_to most (sizes.variables + 1)) in
    let same : c.deref.result.now ≡ c.fill_table.new.table = grind (arith, common_steps) in
    rw same (table_up_to sizes c.deref_mut.result.now _ _ start c.in_ok-lines.ensures)
