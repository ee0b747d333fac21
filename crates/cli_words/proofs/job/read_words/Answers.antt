use Rattle.std.proofs.Common.{◌∙◌, subst, arith, map}
use Rattle.cli_words.specs.CommandLine.{IsJob, interp_command_at, mode_name, modes, options}
use Rattle.cli_words.proofs.InterpFound.{each_found, interp_declared}
use Rattle.cli_words.proofs.Taken.{is_refused, is_taken}
use Rattle.cli_words.proofs.job.read_words.Goals as goal

pub job_of-requires : goal.job_of-requires
job_of-requires c = grind (arith, each_found)

pub returns-in-Ok-clause-taken : goal.returns-in-Ok-clause-taken
returns-in-Ok-clause-taken c =
    let app = c.in_ok-command.ensures.app in
    (is_taken interp_command_at options interp_declared (map mode_name modes) app.0 _ c.args.words.now _ app.1 app.2
    c.all.ensures.words c.in-Ok.matches c.in-Ok.ensures.kinds c.in-Ok.ensures.matches).0

pub returns-in-Ok-clause-job : goal.returns-in-Ok-clause-job
returns-in-Ok-clause-job c =
    let app = c.in_ok-command.ensures.app in
    let taken = is_taken interp_command_at options interp_declared (map mode_name modes) app.0 _ c.args.words.now _ app.1 app.2
    c.all.ensures.words c.in-Ok.matches c.in-Ok.ensures.kinds c.in-Ok.ensures.matches in
    subst (λ rows. IsJob rows c.in_ok-job_of-in-Ok.field-0) taken.1 c.in_ok-job_of-in-Ok.ensures.job

pub returns : goal.returns
returns c =
    let app = c.in_ok-command.ensures.app in
    record {
      usage = λ _. is_refused interp_command_at options interp_declared (map mode_name modes) app.0 _ c.args.words.now _ app.1 app.2
          c.all.ensures.words c.in-Err.error c.in-Err.ensures.kinds (λ out. c.in_default.not-OutOfMemory (c.kind.ensures ∙ out));
      taken = tt;
      job = tt;
      within = tt;
    }
