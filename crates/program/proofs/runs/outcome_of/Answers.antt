use Rattle.std.proofs.Common.{◌∙◌, refl, sym}
use Rattle.program.specs.Duties.{unread}
use Rattle.program.specs.Runs.{answered, no_job}
use Rattle.program.proofs.Streams.{keeps_same}
use Rattle.program.proofs.Endings.{answers_as, asked_not_usage, ran_short}
use Rattle.program.proofs.runs.outcome_of.Goals as goal

pub returns-in-Err-clause-ran : goal.returns-in-Err-clause-ran
returns-in-Err-clause-ran g c = ran_short (g.S.Source.left c.args.source.now) (λ bytes. no_job _ c.in-Err.ensures.err (keeps_same _) refl)

pub returns-then-reads-clause-untouched : goal.returns-then-reads-clause-untouched
returns-then-reads-clause-untouched g c = λ usage.
    let asked = c.in-Ok.ensures.asked in
    absurd (asked_not_usage (g.G.Program.duty c.args.program.now) c.requires.lawful asked
    (c.answer_of_source.ensures.ran c.args.words.now asked).ended usage)

pub returns-clause-ran : goal.returns-clause-ran
returns-clause-ran g c = ran_short (g.S.Source.left c.args.source.now) (λ bytes. answered c.in-Ok.job _ c.in-Ok.ensures.asked
    (answers_as (λ due h. unread due (sym c.reads.ensures ∙ c.if-reads.false) h) c.answer.ensures.answers))
