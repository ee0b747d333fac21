-- One text at most is due for a stream, by what is due for `interp`.
use Rattle.std.proofs.Common.{◌≡◌, ◌++◌, ◌∷◌, ◌∙◌, ℕ, ◌+◌, List, [], ap, arith, inl, inr, refl, subst, sym}
use Rattle.cli_words.specs.declared.job.Job.{Job}
use Rattle.file_stream.specs.Files.{files_of}
use Rattle.file_batch.specs.Blocks.{AreBlocks, IsBlock}
use Rattle.program.specs.Duties.{Due, IsLawful, IsOwed, done}
use Rattle.program.specs.declared.outcome.NoEnd.{NoEnd}
use Rattle.program.proofs.Endings.{one_is_due}
use Rattle.interp_run.specs.Duty.{interp_duty}
use Rattle.batch_pipe.specs.Batches.{IsAnsweredAlone, IsAsked, IsDue, IsRefused, Solves, batch_duty, blocks}

module _ (lawful : IsLawful interp_duty) (job : Job) where
  one_block : (number : ℕ) (file a b : List ℕ) → IsBlock (IsAnsweredAlone job) number file a
      → IsBlock (IsAnsweredAlone job) number file b → a ≡ b
  one_block number file a b x y =
      let same = one_is_due interp_duty lawful job file x.answered.due y.answered.due x.answered.is_due y.answered.is_due in
      grind (arith, same, x.text_is, y.text_is, x.answered.status_is, y.answered.status_is, x.answered.pages_are, y.answered.pages_are)

  one_text : (number : ℕ) (files : List (List ℕ)) (a b : List ℕ) → AreBlocks (IsAnsweredAlone job) number files a
      → AreBlocks (IsAnsweredAlone job) number files b → a ≡ b
  one_text number [] a b x y = x ∙ sym y
  one_text number (file ∷ files) a b x y =
      let first = one_block number file x.0 y.0 x.2 y.2 in let rest = one_text (number + 1) files x.1 y.1 x.3 y.3 in
      x.4 ∙ (ap (λ l. l ++ x.1) first ∙ ap (λ l. y.0 ++ l) rest) ∙ sym y.4

  pub one_due : (stream : List ℕ) (a b : Due NoEnd) → IsDue job stream a → IsDue job stream b → a ≡ b
  one_due stream _ _ (blocks a x) (blocks b y) = ap done (one_text 1 (files_of stream) a b x y)

apart : IsLawful interp_duty → (words : List (List ℕ)) (job : Job) → IsRefused words → ¬ IsAsked words job
apart lawful words job (inl refused) asked = lawful.apart words job refused asked.asked
apart lawful words job (inr (other, is, unsolved)) asked =
    unsolved (subst (λ (j : Job). Solves j.mode) (lawful.one_job words job other asked.asked is) asked.solves)

owed : (job : Job) (stream : List ℕ) (due : Due NoEnd) → IsDue job stream due → IsOwed batch_duty due
owed job stream _ (blocks text are) = grind arith

pub batch_lawful : IsLawful interp_duty → IsLawful batch_duty
batch_lawful lawful = record {
  apart = apart lawful;
  one_job = λ words a b x y. lawful.one_job words a b x.asked y.asked;
  one_due = one_due lawful;
  owed = owed;
  own = λ end. inl refl;
}
