use Rattle.std.proofs.Common.{Ok, [], ap, arith, subst, sym}
use Rattle.lattice.specs.Words.{IsConsistent}
use Rattle.pla_reader.specs.Reading.{Description, description}
use Rattle.program.specs.Outcomes.{HasText}
use Rattle.program.specs.Runs.{EndsWithout, no_memory}
use Rattle.interp_run.specs.Due.{IsDue, is_gen, solving}
use Rattle.interp_run.specs.Ends.{end_way}
use Rattle.interp_run.proofs.Due.{if_err, unsolved_ends}
use Rattle.interp_run.proofs.summary.summarize.Goals as goal

pub solve-requires-clause-consistent : goal.solve-requires-clause-consistent
solve-requires-clause-consistent g c κs within =
    subst (λ (d : Description). IsConsistent d.inputs d.outputs d.rows) (sym c.in-Ok.ensures.file) c.in-Ok.ensures.consistent

pub returns-in-Ok-print_summary-clause-ok : goal.returns-in-Ok-print_summary-clause-ok
returns-in-Ok-print_summary-clause-ok g c =
    let d = description c.in-Ok.pla in let gen = ap is_gen c.requires.mode in
    let text = rw (c.in_ok-solution.ensures.points c.requires.mode, c.deref.ensures.value) at c.in-Ok-print_summary.ensures in
    rw text (solving d _ (rw gen (ap Ok (sym c.in-Ok.ensures.file))) (rw c.requires.mode tt) (rw gen at c.in_ok-solution.ensures.ok.1))

pub returns-in-Ok-print_summary-clause-jobs : goal.returns-in-Ok-print_summary-clause-jobs
returns-in-Ok-print_summary-clause-jobs g c =
    let e = c.in_ok-solution.ensures in
    omega (arith, e.jobs, e.ok.0.count, ap (λ (d : Description). d.outputs) c.in-Ok.ensures.file)

pub returns-in_err-solution-clause-err : goal.returns-in_err-solution-clause-err
returns-in_err-solution-clause-err g c =
    if_err c.from_residual.result _ (EndsWithout (IsDue c.args.job.now [])) c.from_residual.ensures.1
    (unsolved_ends (rw (ap is_gen c.requires.mode) (ap Ok (sym c.in-Ok.ensures.file))) (rw c.requires.mode tt)
    c.in_err-solution.ensures.err)

pub returns-in_err-solution-clause-unfinished : goal.returns-in_err-solution-clause-unfinished
returns-in_err-solution-clause-unfinished g c =
    if_err c.from_residual.result _ (λ o. ¬ HasText end_way o) c.from_residual.ensures.1 c.in_err-solution.ensures.unfinished

pub returns-in_default-clause-err : goal.returns-in_default-clause-err
returns-in_default-clause-err g c = no_memory

pub returns-clause-err : goal.returns-clause-err
returns-clause-err g c = no_memory
