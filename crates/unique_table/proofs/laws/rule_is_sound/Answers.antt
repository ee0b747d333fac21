use Rattle.unique_table.proofs.SoundRule.{rule_is_sound}
use Rattle.unique_table.proofs.laws.rule_is_sound.Goals as goal

pub returns : goal.returns
returns c = rule_is_sound
