use Rattle.std.proofs.Common.{ℕ, ◌≤◌, ◌∙◌, sym, subst}
use Rattle.std.proofs.lemmas.List.{take-replicate, length-replicate}
use Rattle.unique_table.specs.declared.zeros.TheConstants.{MOST_ZEROS}
use Rattle.unique_table.proofs.zeros.zeros.Goals as goal

pub front-requires : goal.front-requires
front-requires c = subst (λ n. c.args.count ≤ n) (sym (length-replicate {0} {A = ℕ} MOST_ZEROS 0)) c.requires

pub returns : goal.returns
returns c = c.front.ensures ∙ take-replicate c.args.count MOST_ZEROS 0 c.requires
