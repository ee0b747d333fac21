use Rattle.unique_table.proofs.SoundRule.{seats_are_sound}
use Rattle.unique_table.proofs.laws.seats_are_sound.Goals as goal

pub returns : goal.returns
returns c = seats_are_sound
