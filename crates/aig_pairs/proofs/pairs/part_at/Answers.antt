use Rattle.aig_pairs.proofs.Parts.{not_read}
use Rattle.aig_pairs.proofs.pairs.part_at.Goals as goal

pub returns-in-Err-Bad : goal.returns-in-Err-Bad
returns-in-Err-Bad c =
    not_read c.args.bytes.now c.args.at c.in-Err-Bad.field-0-0 (rw c.in-Err-Bad.field-0-is at c.in-Err-Bad.ensures)
