use Rattle.std.proofs.Common.{take, get_or, [], ◌∷◌}
use Rattle.std.proofs.lemmas.List.{take_more}
use Rattle.fork_branches.specs.declared.crew.Answer.{Answer}
use Rattle.fork_branches.proofs.Solving.{placed-append}
use Rattle.fork_branches.proofs.solve.put_answers.Goals as goal

pub loop-answer-preserved : goal.loop-answer-preserved
loop-answer-preserved c =
    let d : Answer = record { number = 0; handle = record { 0 = 0 } } in
    let answers = c.args.answers.now in let i = c.loop-answer.answer-index in
    rw (take_more answers i d c.loop-answer-test.true, placed-append (take i answers) (get_or answers i d ∷ []), ← c.loop-answer.invariant)
