use Rattle.aig_reader.proofs.Readings.{one_reading}
use Rattle.aig_reader.proofs.laws.one_reading.Goals as goal

pub returns : goal.returns
returns c = one_reading
