use Rattle.interp_run.proofs.SolvedAnswers.{first_within_last}
use Rattle.interp_run.proofs.laws.first_within_last.Goals as goal

pub returns : goal.returns
returns c = first_within_last
