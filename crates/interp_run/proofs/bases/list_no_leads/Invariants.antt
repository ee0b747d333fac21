use Rattle.std.proofs.Common.{◌≡◌, [], map, reverse}
use Rattle.lattice.specs.Words.{output_numbers}
use Rattle.interp_run.proofs.bases.list_no_leads.Given as goal

-- the empty lists of the outputs before
abbrev pub invariant-loop-before : goal.invariant-loop-before
invariant-loop-before l = map reverse l.lists ≡ map (λ _. []) (output_numbers l.before)
