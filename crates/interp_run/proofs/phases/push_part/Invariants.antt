use Rattle.std.proofs.Common.{◌≡◌, ◌++◌, map}
use Rattle.lattice.specs.Words.{output_numbers}
use Rattle.interp_run.specs.Phases.{task}
use Rattle.interp_run.proofs.phases.push_part.Given as goal

-- the tasks of the outputs before stand behind the others
abbrev pub invariant-loop-before : goal.invariant-loop-before
invariant-loop-before l = l.tasks.items ≡ l.fn.tasks.items ++ map (task l.part) (output_numbers l.before)
