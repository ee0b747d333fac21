use Rattle.std.proofs.Common.{◌≡◌, take}
use Rattle.fork_branches.specs.Solves.{placed}
use Rattle.fork_branches.proofs.solve.put_answers.Given as goal

abbrev pub invariant-loop-answer : goal.invariant-loop-answer
invariant-loop-answer l = l.handles ≡ placed (take l.answer-index l.answers) l.fn.handles
