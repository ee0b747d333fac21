use Rattle.std.proofs.Common.{rules, arith, ℕ, List, sym, subst, []}
use Rattle.atomic_table.specs.Table.{opening}
use Rattle.unique_table.specs.Views.{view_state}
use Rattle.unique_table.specs.declared.view.About.{About}
use Rattle.unique_table.specs.Rule.{Rule, first_view}
use Rattle.unique_table.specs.Passes.{token_state, token_steps, table_name, token_table}
use Rattle.unique_table.proofs.Steps.{starts, first_sound}
use Rattle.unique_table.proofs.pass.Shared.make.Goals as goal

pub of_words-requires : goal.of_words-requires
of_words-requires c =
    let about : About = record { bits = c.args.bits; vars = c.args.vars; plan = c.args.plan } in
    subst (λ (ws : List ℕ). Rule about (opening ws [] (first_view about))) (sym (search rules))
    (starts about c.requires.vars.0 c.requires.vars.1 c.requires.bits)

pub invariant_of-result-clause-sound : goal.invariant_of-result-clause-sound
invariant_of-result-clause-sound c =
    first_sound (record { bits = c.args.bits; vars = c.args.vars; plan = c.args.plan }) c.requires.vars.0 c.requires.vars.1
    c.requires.bits _ (search rules)

pub returns : goal.returns
unfolding token_state token_steps token_table table_name view_state
returns c = grind arith
