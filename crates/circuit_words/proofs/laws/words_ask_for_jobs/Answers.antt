use Rattle.circuit_words.proofs.Asked.{jobs_asked}
use Rattle.circuit_words.proofs.laws.words_ask_for_jobs.Goals as goal

pub returns : goal.returns
returns c = jobs_asked
