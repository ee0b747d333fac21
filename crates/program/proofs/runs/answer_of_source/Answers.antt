use Rattle.std.proofs.Common.{◌∙◌, ap, arith, length, refl}
use Rattle.program.specs.Runs.{answered, out_of_memory, read_fault}
use Rattle.program.proofs.Streams.{keeps_same}
use Rattle.program.proofs.Endings.{answered_read, ran_read, ran_short, too_many}
use Rattle.program.proofs.runs.answer_of_source.Goals as goal

pub returns-in-Err-Fault-clause-ran : goal.returns-in-Err-Fault-clause-ran
returns-in-Err-Fault-clause-ran g c = λ words asked. ran_short (g.S.Source.left c.args.source.now)
    (λ bytes. read_fault c.args.job.now asked c.requires.reads (keeps_same _) refl)

pub returns-in-Err-Memory-clause-ran : goal.returns-in-Err-Memory-clause-ran
returns-in-Err-Memory-clause-ran g c = λ words asked. ran_short (g.S.Source.left c.args.source.now)
    (λ bytes. answered c.args.job.now _ asked (out_of_memory (keeps_same _) refl))

pub returns-then-len-limit-clause-ran : goal.returns-then-len-limit-clause-ran
returns-then-len-limit-clause-ran g c = λ words asked.
    let limit = c.limit-limit.ensures.limit in
    rw limit (ran_read (g.S.Source.left c.args.source.now) c.in-Ok.bytes.items (λ xs e. rw limit at (c.in-Ok.ensures.told xs e))
    (rw limit at c.in-Ok.ensures.bytes.few) (λ bytes is. answered c.args.job.now _ asked
    (too_many (g.G.Program.duty c.args.program.now) _ _ c.requires.reads is (omega (arith, limit, c.if-len-limit.true, c.len.ensures)))))

pub returns-clause-ran : goal.returns-clause-ran
returns-clause-ran g c = λ words asked.
    let limit = c.limit-limit.ensures.limit in
    let value = c.deref.ensures.value in
    ran_read (g.S.Source.left c.args.source.now) c.deref.result.now (λ xs e. value ∙ (rw limit at (c.in-Ok.ensures.told xs e)))
    (rw (limit, ← value) at c.in-Ok.ensures.bytes.few) (λ bytes is. answered c.args.job.now _ asked
    (answered_read (g.G.Program.duty c.args.program.now) c.requires.reads is
    (omega (arith, limit, c.if-len-limit.false, c.len.ensures, ap length value)) c.answer.ensures.answers))
