use Rattle.lattice.proofs.SoundTables.{sound_table}
use Rattle.lattice.proofs.laws.words_are_sound.Goals as goal

pub returns : goal.returns
returns c = sound_table
