use Rattle.std.proofs.Common.{◌∙◌, ap, length}
use Rattle.std.specs.Prelude.{Err}
use Rattle.std.proofs.lemmas.List.{length-map}
use Rattle.program.specs.Runs.{no_memory}
use Rattle.aig_reader.specs.Reading.{circuit}
use Rattle.circuit_run.specs.Parts.{view}
use Rattle.circuit_run.specs.Subjects.{compares}
use Rattle.circuit_run.specs.Texts.{measures_of}
use Rattle.circuit_run.proofs.Endings.{counted_due, uncounted_ends}
use Rattle.circuit_run.proofs.Solutions.{alone, alone_solves, measures_are, solved_count}
use Rattle.circuit_run.proofs.answer.count_text.Goals as goal

pub returns-in-Err-Full-clause-err : goal.returns-in-Err-Full-clause-err
returns-in-Err-Full-clause-err c = rw c.stop.ensures (uncounted_ends c.args.job.now (view c.args.seen.now) c.requires.whole.asked
    (ap compares c.requires.mode) c.requires.mode (c.in-Err-Full.ensures.exhausted (ap Err c.in-Err-Full.field-0-is)))

pub returns-in-Err-Memory-clause-err : goal.returns-in-Err-Memory-clause-err
returns-in-Err-Memory-clause-err c = no_memory

pub counts_text-requires-clause-count : goal.counts_text-requires-clause-count
counts_text-requires-clause-count c =
    let aig = c.args.seen.now.aig in let found = c.in-Ok.ensures.measures in
    ap length (c.deref.ensures.value ∙ measures_are aig.inputs found.0 c.in-Ok.measures.items found.2)
    ∙ (length-map found.0 (measures_of aig.inputs)
    ∙ solved_count (alone_solves (circuit aig) c.args.seen.now.care found.0 found.1) c.requires.whole.asked.within)

pub returns-in-Ok-counts_text-clause-ok : goal.returns-in-Ok-counts_text-clause-ok
returns-in-Ok-counts_text-clause-ok c =
    let aig = c.args.seen.now.aig in let found = c.in-Ok.ensures.measures in
    rw (c.in-Ok-counts_text.ensures, c.deref.ensures.value ∙ measures_are aig.inputs found.0 c.in-Ok.measures.items found.2)
    (counted_due c.args.job.now (view c.args.seen.now) c.requires.whole.asked (ap compares c.requires.mode)
    c.requires.mode (alone found.0)
    (alone_solves (circuit aig) c.args.seen.now.care found.0 found.1) c.in-Ok.ensures.fits)

pub returns-clause-err : goal.returns-clause-err
returns-clause-err c = no_memory
