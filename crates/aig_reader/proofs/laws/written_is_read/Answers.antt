use Rattle.aig_reader.proofs.Writing.{written_is_read}
use Rattle.aig_reader.proofs.laws.written_is_read.Goals as goal

pub returns : goal.returns
returns c = written_is_read
