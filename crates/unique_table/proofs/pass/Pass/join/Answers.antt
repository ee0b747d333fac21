use Rattle.std.proofs.Common.{rules, arith, ◌∙◌}
use Rattle.std.proofs.lemmas.Nat.{pow_pos}
use Rattle.unique_table.specs.Views.{view_state}
use Rattle.unique_table.specs.PassOf.{pass_state, pass_steps}
use Rattle.unique_table.proofs.Steps.{unites, table_same, joined_is, checks}
use Rattle.unique_table.proofs.pass.Pass.join.Goals as goal

pub join_seat-requires : goal.join_seat-requires
unfolding pass_state view_state
join_seat-requires c = let p = c.args.self.now in let q = c.args.other in
    (p.of, table_same _ _ c.requires ∙ p.of, q.bare, grind (arith, pow_pos), unites _ _ _ _ _ (q.sound).live)

pub load-requires : goal.load-requires
load-requires c = (search rules, grind (arith, pow_pos), checks _ _ (search rules) _ _ _ (grind (arith, pow_pos)))

pub returns : goal.returns
unfolding pass_state pass_steps
returns c = record { joined = joined_is _ _ _ _ _ _ (search rules) (search rules) (search rules); steps = grind arith }
