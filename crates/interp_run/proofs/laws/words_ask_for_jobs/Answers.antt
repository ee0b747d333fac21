use Rattle.interp_run.proofs.Inhabited.{jobs_asked}
use Rattle.interp_run.proofs.laws.words_ask_for_jobs.Goals as goal

pub returns : goal.returns
returns c = jobs_asked
