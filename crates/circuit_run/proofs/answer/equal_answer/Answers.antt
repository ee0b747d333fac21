use Rattle.std.proofs.Common.{ap}
use Rattle.std.specs.Prelude.{Err}
use Rattle.program.specs.Runs.{no_memory}
use Rattle.aig_reader.specs.Reading.{circuit}
use Rattle.circuit_run.specs.Parts.{view}
use Rattle.circuit_run.proofs.Endings.{compared_due, uncompared_ends}
use Rattle.circuit_run.proofs.Solutions.{points_count}
use Rattle.circuit_run.proofs.answer.equal_answer.Goals as goal

pub returns-in-Err-Full-clause-err : goal.returns-in-Err-Full-clause-err
returns-in-Err-Full-clause-err c = rw c.stop.ensures (uncompared_ends c.args.job.now (view c.args.seen.now) c.requires.whole.asked
    c.requires.mode (c.in-Err-Full.ensures.exhausted (ap Err c.in-Err-Full.field-0-is)))

pub returns-in-Err-Memory-clause-err : goal.returns-in-Err-Memory-clause-err
returns-in-Err-Memory-clause-err c = no_memory

pub equal_text-requires-clause-count : goal.equal_text-requires-clause-count
equal_text-requires-clause-count c =
    let aig = c.args.seen.now.aig in
    rw c.deref.ensures.value (points_count (circuit aig) c.args.seen.now.care c.in-Ok.points.items c.in-Ok.ensures.found
    c.requires.whole.asked.within)

pub returns-in-Ok-equal_text-clause-ok : goal.returns-in-Ok-equal_text-clause-ok
returns-in-Ok-equal_text-clause-ok c =
    rw (c.end_for.ensures, c.in-Ok-equal_text.ensures, c.deref.ensures.value, c.deref-in-Ok-equal_text.ensures.value)
    (compared_due c.args.job.now (view c.args.seen.now) c.requires.whole.asked c.requires.mode c.in-Ok.points.items
    c.in-Ok.ensures.found c.in-Ok.ensures.fits)

pub returns-clause-err : goal.returns-clause-err
returns-clause-err c = no_memory
