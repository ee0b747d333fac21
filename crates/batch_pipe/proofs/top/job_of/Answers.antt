use Rattle.std.proofs.Common.{◌≡◌, ◌⊎◌, ◌∙◌, Err, ap, inl, inr, sym}
use Rattle.lattice.specs.declared.kind.Mode.{Mode}
use Rattle.lattice.specs.declared.kind.Mode.TheVariants.{Check, Gen}
use Rattle.program.specs.Runs.{no_memory_for_words, refused}
use Rattle.batch_pipe.specs.Batches.{Solves}
use Rattle.batch_pipe.proofs.top.job_of.Goals as goal

unsolved : (mode : Mode) → (mode ≡ Check) ⊎ (mode ≡ Gen) → ¬ Solves mode
unsolved mode (inl check) (inl anf) = let bad = sym check ∙ anf in cc
unsolved mode (inl check) (inr basis) = let bad = sym check ∙ basis in cc
unsolved mode (inr gen) (inl anf) = let bad = sym gen ∙ anf in cc
unsolved mode (inr gen) (inr basis) = let bad = sym gen ∙ basis in cc

pub returns-in-Err-Usage-clause-err : goal.returns-in-Err-Usage-clause-err
returns-in-Err-Usage-clause-err c = refused (inl (c.in-Err-Usage.ensures.usage (ap Err c.in-Err-Usage.field-0-is)))

pub returns-in-Err-Memory-clause-err : goal.returns-in-Err-Memory-clause-err
returns-in-Err-Memory-clause-err c = no_memory_for_words tt

pub returns-in-Check-clause-err : goal.returns-in-Check-clause-err
returns-in-Check-clause-err c =
    refused (inr (c.in-Ok.job, (c.in-Ok.ensures.taken, c.in-Ok.ensures.job), unsolved c.in-Ok.job.mode c.in-Check.is))
