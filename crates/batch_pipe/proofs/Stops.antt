-- What a batch says by how it ended, where its source tells its bytes.
use Rattle.std.proofs.Common.{◌≡◌, ◌≢◌, ◌⊎◌, ◌≤◌, ◌++◌, ◌∙◌, ℕ, List, [], Option, None, Some, ap, append-nil, arith, inl, inr}
use Rattle.std.proofs.Common.{length, length-append, refl, subst, sym}
use Rattle.std.specs.List.{concat}
use Rattle.std.specs.Io.KnownBytes.{Appends, Consumes, IsAtEnd}
use Rattle.cli_words.specs.declared.job.Job.{Job}
use Rattle.file_stream.specs.Files.{files_of}
use Rattle.file_relay.specs.Reading.{IsReadPast}
use Rattle.file_relay.specs.declared.reader.TheConstants.{MOST_STREAM}
use Rattle.file_batch.specs.Batches.{IsWritten}
use Rattle.file_batch.specs.Blocks.{AreBlocks}
use Rattle.file_batch.specs.declared.stop.BatchStop.{BatchStop}
use Rattle.file_batch.specs.declared.stop.BatchStop.TheVariants as stops
use Rattle.program.specs.Duties.{Due, IsDueFor, IsLawful, done, too_long, unread, within}
use Rattle.program.specs.Outcomes.{HasText, status_of}
use Rattle.program.specs.Runs.{no_memory_for_words, refused}
use Rattle.program.specs.declared.outcome.NoEnd.{NoEnd}
use Rattle.program.specs.declared.outcome.Outcome.{Outcome}
use Rattle.program.specs.declared.outcome.Outcome.TheVariants as ends
use Rattle.batch_pipe.specs.Batches.{IsAnsweredAlone, IsAsked, IsRefused, batch_duty, blocks}
use Rattle.batch_pipe.specs.Runs.{Ends, no_job, stop_outcome, stopped, written}

-- ---- what was read of a source that tells its bytes

read_length : (left later : Option (List ℕ)) (read bytes : List ℕ) → Consumes left later read → left ≡ Some bytes
    → length read ≤ length bytes
read_length None later read bytes lost is = cc
read_length (Some xs) None read bytes lost is = absurd lost
read_length (Some xs) (Some ys) read bytes lost is =
    let same : xs ≡ bytes = cc in omega (arith, length-append read ys, ap length lost, ap length same)

read_whole : (left later : Option (List ℕ)) (read bytes : List ℕ) → Consumes left later read → IsAtEnd later → left ≡ Some bytes
    → read ≡ bytes
read_whole None later read bytes lost ended is = cc
read_whole (Some xs) None read bytes lost ended is = absurd lost
read_whole (Some xs) (Some ys) read bytes lost ended is =
    let same : xs ≡ bytes = cc in sym (append-nil read) ∙ (ap (λ l. read ++ l) (sym ended) ∙ (sym lost ∙ same))

-- ---- which stop it was

pub stop_read : (stop : BatchStop) → stop_outcome stop ≡ ends.ReadFault → stop ≡ stops.ReadFault
stop_read stops.Memory e = cc
stop_read stops.ReadFault e = refl
stop_read stops.WriteFault e = cc
stop_read stops.TooLong e = cc

pub stop_write : (stop : BatchStop) → stop_outcome stop ≡ ends.WriteFault → stop ≡ stops.WriteFault
stop_write stops.Memory e = cc
stop_write stops.ReadFault e = cc
stop_write stops.WriteFault e = refl
stop_write stops.TooLong e = cc

pub stop_long : (stop : BatchStop) → stop_outcome stop ≡ ends.TooLong MOST_STREAM → stop ≡ stops.TooLong
stop_long stops.Memory e = cc
stop_long stops.ReadFault e = cc
stop_long stops.WriteFault e = cc
stop_long stops.TooLong e = refl

pub stop_not_done : (stop : BatchStop) → stop_outcome stop ≢ ends.Done
stop_not_done stops.Memory e = cc
stop_not_done stops.ReadFault e = cc
stop_not_done stops.WriteFault e = cc
stop_not_done stops.TooLong e = cc

pub stop_not_usage : (stop : BatchStop) → stop_outcome stop ≢ ends.Usage
stop_not_usage stops.Memory e = cc
stop_not_usage stops.ReadFault e = cc
stop_not_usage stops.WriteFault e = cc
stop_not_usage stops.TooLong e = cc

-- ---- what is due and what came of it

-- a batch without faults did what is due, or memory ran out
abbrev pub Meets : (old new : Option (List ℕ)) → Due NoEnd → Outcome NoEnd → Type 0
Meets old new due o = (status_of batch_duty.way o ≡ 7) ⊎ ((status_of batch_duty.way o ≡ status_of batch_duty.way due.outcome)
    × (HasText batch_duty.way due.outcome → Appends old new (concat due.pages)))

module _ (lawful : IsLawful batch_duty) (left later old new : Option (List ℕ)) (job : Job) (bytes : List ℕ)
    (told : left ≡ Some bytes) where
  past : IsReadPast left later → (due : Due NoEnd) → IsDueFor batch_duty job bytes due → Meets old new due (ends.TooLong MOST_STREAM)
  past (read, lost, long) due (unread _ none is) = cc
  past (read, lost, long) due (too_long reads over) = inr (refl, λ text. absurd (omega (arith, text)))
  past (read, lost, long) due (within _ reads few is) = absurd (omega (arith, long, few, read_length left later read bytes lost told))

  whole : IsWritten (IsAnsweredAlone job) left later old new → (due : Due NoEnd) → IsDueFor batch_duty job bytes due
      → Meets old new due ends.Done
  whole w due (unread _ none is) = cc
  whole w due (too_long reads over) =
      absurd (omega (arith, over, w.within, ap length (read_whole left later w.read bytes w.lost w.ended told)))
  whole w due (within _ reads few (blocks text are)) =
      let all = read_whole left later w.read bytes w.lost w.ended told in
      let read = subst (λ (l : List ℕ). AreBlocks (IsAnsweredAlone job) 1 (files_of l) w.text) all w.blocks in
      let same = lawful.one_due job bytes (done w.text) (done text) (blocks w.text read) (blocks text are) in
      let page : w.text ++ [] ≡ text ++ [] = ap (λ (d : Due NoEnd). concat d.pages) same in
      inr (refl, λ has. subst (Appends old new) (sym (append-nil w.text) ∙ page) w.gained)

module _ (lawful : IsLawful batch_duty) {words : List (List ℕ)} {left later old new : Option (List ℕ)} {read_rose write_rose : Type 0}
    (job : Job) (bytes : List ℕ) (asked : IsAsked words job) (told : left ≡ Some bytes) (calm : ¬ read_rose) (quiet : ¬ write_rose) where
  pub met : {o : Outcome NoEnd} → Ends words left later old new o → (o ≡ ends.ReadFault → read_rose) → (o ≡ ends.WriteFault → write_rose)
      → (o ≡ ends.TooLong MOST_STREAM → IsReadPast left later) → (due : Due NoEnd) → IsDueFor batch_duty job bytes due
      → Meets old new due o
  met (no_job _ (refused r) lost kept) read write long due is = absurd (lawful.apart words job r asked)
  met (no_job _ (no_memory_for_words m) lost kept) read write long due is = inl refl
  met (written other a w) read write long due is =
      let same = subst (λ (j : Job). IsWritten (IsAnsweredAlone j) left later old new) (lawful.one_job words other job a asked) w in
      whole lawful left later old new job bytes told same due is
  met (stopped other stops.Memory a part) read write long due is = inl refl
  met (stopped other stops.ReadFault a part) read write long due is = absurd (calm (read refl))
  met (stopped other stops.WriteFault a part) read write long due is = absurd (quiet (write refl))
  met (stopped other stops.TooLong a part) read write long due is = past lawful left later old new job bytes told (long refl) due is

  -- and it came to its end
  pub met_end : {o : Outcome NoEnd} → Ends words left later old new o → (o ≡ ends.ReadFault → read_rose)
      → (o ≡ ends.WriteFault → write_rose) → (o ≡ ends.TooLong MOST_STREAM → IsReadPast left later) → length bytes ≤ MOST_STREAM
      → (status_of batch_duty.way o ≡ 0) ⊎ (status_of batch_duty.way o ≡ 7)
  met_end (no_job _ (refused r) lost kept) read write long few = absurd (lawful.apart words job r asked)
  met_end (no_job _ (no_memory_for_words m) lost kept) read write long few = inr refl
  met_end (written other a w) read write long few = inl refl
  met_end (stopped other stops.Memory a part) read write long few = inr refl
  met_end (stopped other stops.ReadFault a part) read write long few = absurd (calm (read refl))
  met_end (stopped other stops.WriteFault a part) read write long few = absurd (quiet (write refl))
  met_end (stopped other stops.TooLong a part) read write long few =
      let past = long refl in absurd (omega (arith, few, past.2, read_length left later past.0 bytes past.1 told))

-- ---- what the status says

module _ {words : List (List ℕ)} {left later old new : Option (List ℕ)} where
  pub is_usage : {o : Outcome NoEnd} → Ends words left later old new o → status_of batch_duty.way o ≡ 2
      → (o ≡ ends.Usage) × IsRefused words × (later ≡ left)
  is_usage (no_job _ (refused r) lost kept) two = (refl, r, lost)
  is_usage (no_job _ (no_memory_for_words m) lost kept) two = absurd (omega (arith, two))
  is_usage (written job a w) two = absurd (omega (arith, two))
  is_usage (stopped job stops.Memory a part) two = absurd (omega (arith, two))
  is_usage (stopped job stops.ReadFault a part) two = absurd (omega (arith, two))
  is_usage (stopped job stops.WriteFault a part) two = absurd (omega (arith, two))
  is_usage (stopped job stops.TooLong a part) two = absurd (omega (arith, two))

  pub is_long : {o : Outcome NoEnd} → Ends words left later old new o → status_of batch_duty.way o ≡ 10 → o ≡ ends.TooLong MOST_STREAM
  is_long (no_job _ (refused r) lost kept) ten = absurd (omega (arith, ten))
  is_long (no_job _ (no_memory_for_words m) lost kept) ten = absurd (omega (arith, ten))
  is_long (written job a w) ten = absurd (omega (arith, ten))
  is_long (stopped job stops.Memory a part) ten = absurd (omega (arith, ten))
  is_long (stopped job stops.ReadFault a part) ten = absurd (omega (arith, ten))
  is_long (stopped job stops.WriteFault a part) ten = absurd (omega (arith, ten))
  is_long (stopped job stops.TooLong a part) ten = refl

  pub refuses : IsLawful batch_duty → {o : Outcome NoEnd} → Ends words left later old new o → IsRefused words
      → (status_of batch_duty.way o ≡ 2) ⊎ (status_of batch_duty.way o ≡ 7)
  refuses lawful (no_job _ (refused r) lost kept) is = inl refl
  refuses lawful (no_job _ (no_memory_for_words m) lost kept) is = inr refl
  refuses lawful (written job a w) is = absurd (lawful.apart words job is a)
  refuses lawful (stopped job stop a part) is = absurd (lawful.apart words job is a)
