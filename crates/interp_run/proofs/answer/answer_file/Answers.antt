use Rattle.std.proofs.Common.{◌≡◌, ap, arith, map, rules}
use Rattle.std.proofs.lemmas.Result.{err_from_is_err_and}
use Rattle.anf_printer.specs.Text.{shown_answer}
use Rattle.pla_reader.specs.Reading.{description}
use Rattle.program.specs.Runs.{EndsWithout, no_memory}
use Rattle.interp_run.specs.Answers.{notes_from, texts}
use Rattle.interp_run.specs.Due.{IsDue, least_jobs, solving}
use Rattle.interp_run.proofs.Due.{contradiction_ends, if_err, solves_without_gen, told_jobs, unsolved_ends}
use Rattle.interp_run.proofs.Written.{are_answers, counts_fit}
use Rattle.interp_run.proofs.answer.answer_file.Goals as goal

pub describe-requires-clause-reads : goal.describe-requires-clause-reads
describe-requires-clause-reads g c = (solves_without_gen _ c.requires.mode).1

pub answer_text-requires-clause-families : goal.answer_text-requires-clause-families
answer_text-requires-clause-families g c = rw c.deref-2.ensures.value
    (are_answers (description c.in_ok-pla.pla) c.args.job.now.mode c.in_ok-solution.solution.shown.items c.in_ok-solution.ensures.ok.0)

pub returns-in-Ok-answer_text : goal.returns-in-Ok-answer_text
returns-in-Ok-answer_text g c =
    let d = description c.in_ok-pla.pla in let mode = c.args.job.now.mode in
    let answers = map shown_answer c.in_ok-solution.solution.shown.items in
    let pages : c.in-Ok-answer_text.pages ≡ texts d mode answers = search rules in
    let notes : c.in-Ok.notes ≡ notes_from 1 answers = search rules in
    let modes = solves_without_gen _ c.requires.mode in let jobs = told_jobs mode answers modes.1 in
    record {
      same_pool = search rules;
      ok = rw (pages, notes) (solving d _ c.in_ok-pla.ensures.ok modes.0 (rw modes.1 at c.in_ok-solution.ensures.ok.1));
      jobs = grind (arith, c.in_ok-solution.ensures.jobs, jobs, ap (least_jobs mode) notes);
      few = counts_fit c.in_ok-pla.pla mode answers c.in-Ok-answer_text.pages c.in-Ok.notes c.in_ok-solution.ensures.ok.0 pages notes;
      err = tt;
    }

pub returns-in_err-check_rows-clause-err : goal.returns-in_err-check_rows-clause-err
returns-in_err-check_rows-clause-err g c =
    let stop = err_from_is_err_and c.from_residual-in_err-check_rows.result c.from_residual-in_err-check_rows.ensures.1 in
    rw (stop.1, stop.2)
    (contradiction_ends c.in_ok-pla.ensures.ok (solves_without_gen _ c.requires.mode).0 c.in_err-check_rows.ensures.err)

pub returns-in_err-solution-clause-err : goal.returns-in_err-solution-clause-err
returns-in_err-solution-clause-err g c =
    if_err c.from_residual-in_err-solution.result c.in_err-solution.field-0.0 (EndsWithout (IsDue c.args.job.now c.args.bytes.now))
    c.from_residual-in_err-solution.ensures.1
    (unsolved_ends c.in_ok-pla.ensures.ok (solves_without_gen _ c.requires.mode).0 c.in_err-solution.ensures.err)

pub returns-in_default-clause-err : goal.returns-in_default-clause-err
returns-in_default-clause-err g c = no_memory

pub returns-clause-err : goal.returns-clause-err
returns-clause-err g c = no_memory
