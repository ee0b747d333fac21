use Rattle.pla_reader.specs.Reading.{description}
use Rattle.nf_run.proofs.QueryAnswers.{Answers}
use Rattle.nf_run.proofs.answering.answers_on.Given as goal

-- the answers so far
abbrev pub invariant-loop-query : goal.invariant-loop-query
invariant-loop-query g l =
    Answers (description l.p) l.queries (g.S.Store.state l.fn.store) (g.S.Store.state l.store) l.query-index l.answers.items
