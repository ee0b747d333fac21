use Rattle.std.proofs.Common.{Some, arith}
use Rattle.unique_table.specs.Views.{view_state}
use Rattle.unique_table.specs.PassOf.{pass_state, pass_steps, pass_sound}
use Rattle.unique_table.proofs.Calls.{is_known, node_told}
use Rattle.unique_table.proofs.pass.PassStore.node.Goals as goal

pub word_at-word-requires : goal.word_at-word-requires
word_at-word-requires c = is_known c.args.self.now c.args.h c.if-h-lt2.false c.requires

pub node_of-requires-clause-last : goal.node_of-requires-clause-last
unfolding pass_state view_state
node_of-requires-clause-last c =
    omega (arith, c.word_at-word.ensures.meets.teaches.last, (pass_sound c.word_at-word.new.self).vars_high)

pub returns : goal.returns
unfolding pass_steps
returns c = assumption (node_told c.args.self.now c.word_at-word.new.self c.args.h c.word_at-word.result c.word_at-word.ensures.same.id
    c.if-h-lt2.false c.requires c.word_at-word.ensures.meets (Some c.node_of.result) c.node_of.ensures tt)
