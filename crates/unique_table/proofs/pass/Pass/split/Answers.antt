use Rattle.std.proofs.Common.{rules, arith}
use Rattle.std.proofs.lemmas.Nat.{pow_pos}
use Rattle.unique_table.specs.PassOf.{pass_state, pass_steps}
use Rattle.unique_table.specs.Views.{view_state}
use Rattle.unique_table.proofs.Steps.{divides, split_sound, second_sound}
use Rattle.unique_table.proofs.pass.Pass.split.Goals as goal

pub split_seat-seat-requires : goal.split_seat-seat-requires
split_seat-seat-requires c = let p = c.args.self.now in (p.of, grind (arith, pow_pos), divides _ _ _)

pub invariant_of-self-clause-sound : goal.invariant_of-self-clause-sound
invariant_of-self-clause-sound c = split_sound _ _ (search rules) c.args.self.now.sound

pub invariant_of-result-clause-sound : goal.invariant_of-result-clause-sound
invariant_of-result-clause-sound c = second_sound _ _ (search rules) c.args.self.now.sound

pub returns : goal.returns
unfolding pass_state pass_steps view_state
returns c = grind arith
