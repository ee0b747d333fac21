use Rattle.std.proofs.Common.{rules}
use Rattle.program.specs.Runs.{no_memory_for_words, refused}
use Rattle.circuit_run.proofs.top.CircuitProgram.job_of.Goals as goal

pub returns-in-Err-Usage-clause-err : goal.returns-in-Err-Usage-clause-err
returns-in-Err-Usage-clause-err c = refused (search rules)

pub returns-in-Err-Memory-clause-err : goal.returns-in-Err-Memory-clause-err
returns-in-Err-Memory-clause-err c = no_memory_for_words tt
