use Rattle.uses_library.proofs.RowsCounted.{is_lawful}
use Rattle.uses_library.proofs.counted.RowCountProgram.lawful.Goals as goal

pub returns : goal.returns
returns c = is_lawful
