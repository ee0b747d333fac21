-- What one thread wrote, as what two of them would.
use Rattle.std.proofs.Common.{ℕ, ◌≤◌, List, [], ◌∷◌, ◌++◌, length, take, refl, sym, true≢false}
use Rattle.std.specs.Prelude.{Option, Result, Ok, Err, OnOk, IsOk}
use Rattle.std.proofs.KnownBytes.{Appends-nil}
use Rattle.std.specs.Io.KnownBytes.{Appends, Consumes, IsAtEnd}
use Rattle.outside.specs.Causes.{GainsFront}
use Rattle.file_relay.specs.Messages.{HaveFiles}
use Rattle.file_relay.specs.declared.message.Message.{Message}
use Rattle.file_relay.specs.declared.message.Message.TheVariants.{End}
use Rattle.lattice.proofs.Polynomials.{on_err}
use Rattle.file_stream.specs.Files.{files_of}
use Rattle.file_relay.specs.declared.reader.StreamStop.{StreamStop}
use Rattle.file_relay.specs.declared.reader.TheConstants.{MOST_STREAM}
use Rattle.file_batch.specs.Alone.{AllAnswered}
use Rattle.file_batch.specs.Batches.{IsWritten}
use Rattle.file_batch.specs.Blocks.{AreBlocks}
use Rattle.file_batch.specs.Progress.{HasWritten, IsToldOf, Progress, whole}
use Rattle.file_batch.specs.declared.progress.Halt.{Halt}
use Rattle.file_batch.proofs.Parts.{progress_all, progress_part}
use Rattle.file_batch.proofs.Told.{one_more}

module _ (answers : List ℕ → ℕ → List (List ℕ) → Type 0) (start now : Option (List ℕ)) (ms : List Message) (files : List (List ℕ))
    (h : HaveFiles 1 ms files) where
  end_writes : (r : Result (Unit {0}) Halt) → OnOk r (HasWritten (IsToldOf answers End) now now r)
  end_writes (Ok tt) = whole [] refl (Appends-nil now)
  end_writes (Err halt) = tt

  -- the end mark adds nothing
  with_end : (r : Result (Unit {0}) Halt) → Progress answers start now ms r → Progress answers start now (ms ++ End ∷ []) r
  with_end r p = one_more answers start now now ms End r r p (end_writes r) (on_err r (refl, refl))

  pub answered_all : (r : Result (Unit {0}) Halt) → Progress answers start now ms r
      → OnOk r ((text : List ℕ) × AreBlocks answers 1 files text × Appends start now text)
  answered_all r p = progress_all answers start now (ms ++ End ∷ []) ms files refl h r (with_end r p)

  pub answered_part : (r : Result (Unit {0}) Halt) → Progress answers start now ms r
      → (count : ℕ) × (text : List ℕ) × AreBlocks answers 1 (take count files) text × GainsFront start now text
  answered_part r p = progress_part answers start now (ms ++ End ∷ []) ms files refl h r (with_end r p)

-- a batch by one thread that did not stop wrote all
pub alone_written : {D : Type 0} (answers : List ℕ → ℕ → List (List ℕ) → Type 0) (left later held now : Option (List ℕ)) (read : List ℕ)
    (r : Result (Unit {0}) D) (first : Result (Unit {0}) StreamStop) (written : Result (Unit {0}) Halt) → OnOk r (IsOk first × IsOk written)
    → Consumes left later read → IsAtEnd later → length read ≤ MOST_STREAM → AllAnswered answers held now read written
    → OnOk r (IsWritten answers left later held now)
alone_written answers left later held now read (Err x) first written o l e b h = tt
alone_written answers left later held now read (Ok x) first (Err z) o l e b h = absurd (true≢false (sym o.1))
alone_written answers left later held now read (Ok x) first (Ok z) o l e b h =
    let all = answered_all answers held now h.told (files_of read) h.files (Ok z) h.progress in
    record { read = read; text = all.0; lost = l; ended = e; within = b; blocks = all.1; gained = all.2 }
