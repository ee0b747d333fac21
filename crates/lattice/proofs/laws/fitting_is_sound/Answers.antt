use Rattle.lattice.proofs.SoundTables.{sound_on}
use Rattle.lattice.proofs.laws.fitting_is_sound.Goals as goal

pub returns : goal.returns
returns c = sound_on
