use Rattle.circuit_words.proofs.Asked.{apart, one_job}
use Rattle.circuit_words.proofs.laws.one_job_is_asked.Goals as goal

pub returns : goal.returns
returns c = record { one = one_job; refused = apart }
