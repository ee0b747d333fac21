-- What was written of the files that were sent.
use Rattle.std.proofs.Common.{◌≡◌, ℕ, suc, ◌+◌, List, [], ◌∷◌, ◌++◌, length, take, drop, get_or, refl, sym, ap, ◌∙◌, subst}
use Rattle.std.proofs.Common.{inl, inr, true≢false, arith}
use Rattle.std.specs.Prelude.{Option, Result, Ok, Err, OnOk, OnErr, IsOk}
use Rattle.std.specs.Io.KnownBytes.{Appends, Consumes}
use Rattle.std.proofs.lemmas.List.{take_all}
use Rattle.lattice.proofs.Polynomials.{left_nil}
use Rattle.outside.specs.Causes.{GainsFront}
use Rattle.file_stream.specs.Files.{files_of}
use Rattle.file_relay.specs.Messages.{HasFile, HaveFiles}
use Rattle.file_relay.specs.Reading.{BeforeEnd, IsReadPart, IsReadWhole}
use Rattle.file_relay.specs.declared.reader.StreamStop.{StreamStop}
use Rattle.file_relay.specs.declared.message.Message.{Message}
use Rattle.file_relay.specs.declared.message.Message.TheVariants.{File, End}
use Rattle.file_batch.specs.Batches.{AreReadWhole, IsWritten}
use Rattle.file_batch.specs.Blocks.{AreBlocks, IsBlock}
use Rattle.file_batch.specs.Progress.{AreTold, IsToldOf, Progress, going, stopped}
use Rattle.file_batch.specs.declared.progress.Halt.{Halt}
use Rattle.outside.proofs.Known.{all_front}

-- messages to which one more was added are some
pub some_left : (ms : List Message) (m : Message) → ms ++ m ∷ [] ≡ [] → ⊥
some_left [] m e = omega (arith, ap length e)
some_left (x ∷ ms) m e = omega (arith, ap length e)

-- where one is the only one, none was before it
pub alone_before : (ms : List Message) (m x : Message) → ms ++ m ∷ [] ≡ x ∷ [] → ms ≡ []
alone_before [] m x e = refl
alone_before (y ∷ ms) m x e = absurd (some_left ms m (ap (drop 1) e))

module _ (answers : List ℕ → ℕ → List (List ℕ) → Type 0) where
  is_block : (n : ℕ) (m : Message) (file text : List ℕ) → IsToldOf answers m text → HasFile n m file → IsBlock answers n file text
  is_block n (File k piece) file text t h = subst (λ x. IsBlock answers x file text) h.0 (t file h.1)
  is_block n End file text t h = absurd h

  told_all : (n : ℕ) (ms : List Message) (files : List (List ℕ)) (text : List ℕ) → AreTold answers (ms ++ End ∷ []) text
      → HaveFiles n ms files
      → AreBlocks answers n files text
  told_all n [] [] text t h = t.4 ∙ (ap (λ b. b ++ t.1) t.2 ∙ t.3)
  told_all n [] (f ∷ fs) text t h = absurd h
  told_all n (m ∷ ms) [] text t h = absurd h
  told_all n (m ∷ ms) (f ∷ fs) text t h = (t.0, t.1, is_block n m f t.0 t.2 h.0, told_all (n + 1) ms fs t.1 t.3 h.1, t.4)

  told_front : (n : ℕ) (told later ms : List Message) (files : List (List ℕ)) (text : List ℕ) → told ++ later ≡ ms ++ End ∷ []
      → AreTold answers told text → HaveFiles n ms files → (count : ℕ) × AreBlocks answers n (take count files) text
  told_front n [] later ms files text e t h = (0, t)
  told_front n (x ∷ told) later [] [] text e t h =
      let head : x ≡ End = ap (λ l. get_or l 0 x) e in
      let none : told ≡ [] = left_nil told later (ap (drop 1) e) in
      let block : t.0 ≡ [] = subst (λ y. IsToldOf answers y t.0) head t.2 in
      let more : t.1 ≡ [] = subst (λ l. AreTold answers l t.1) none t.3 in
      (0, t.4 ∙ (ap (λ b. b ++ t.1) block ∙ more))
  told_front n (x ∷ told) later [] (f ∷ fs) text e t h = absurd h
  told_front n (x ∷ told) later (m ∷ ms) [] text e t h = absurd h
  told_front n (x ∷ told) later (m ∷ ms) (f ∷ fs) text e t h =
      let head : x ≡ m = ap (λ l. get_or l 0 x) e in
      let r = told_front (n + 1) told later ms fs t.1 (ap (drop 1) e) t.3 h.1 in
      (suc r.0, (t.0, t.1, is_block n m f t.0 (subst (λ y. IsToldOf answers y t.0) head t.2) h.0, r.1, t.4))

  module _ (held now : Option (List ℕ)) (got ms : List Message) (files : List (List ℕ)) (e : got ≡ ms ++ End ∷ [])
      (h : HaveFiles 1 ms files) where
    -- all blocks were written where nothing stopped the writing
    pub progress_all : (r : Result (Unit {0}) Halt) → Progress answers held now got r
        → OnOk r ((text : List ℕ) × AreBlocks answers 1 files text × Appends held now text)
    progress_all _ (going text t a) = (text, told_all 1 ms files text (subst (λ l. AreTold answers l text) e t) h, a)
    progress_all _ (stopped halt told later text k t f) = tt

    -- and in any case a front of those of some of the first files
    pub progress_part : (r : Result (Unit {0}) Halt) → Progress answers held now got r
        → (count : ℕ) × (text : List ℕ) × AreBlocks answers 1 (take count files) text × GainsFront held now text
    progress_part _ (going text t a) =
        let all = told_all 1 ms files text (subst (λ l. AreTold answers l text) e t) h in (
          length files,
          text,
          subst (λ l. AreBlocks answers 1 l text) (sym (take_all (length files) files (omega arith))) all,
          all_front held now text a,
        )
    progress_part _ (stopped halt told later text k t f) =
        let r = told_front 1 told later ms files text (sym k ∙ e) t h in (r.0, text, r.1, f)

-- the files that were read whole, however the reading ended
abbrev pub SentWhole : (left later : Option (List ℕ)) → List Message → Type 0
SentWhole left later sent = (ms : List Message) × (read : List ℕ) × (done : List (List ℕ)) × (sent ≡ ms ++ End ∷ []) × HaveFiles 1 ms done
    × Consumes left later read × AreReadWhole later read done

pub sent_whole : {X E : Type 0} (left later : Option (List ℕ)) (sent : List Message) (r : Result X E)
    → OnOk r (BeforeEnd (IsReadWhole left later) sent) → OnErr r (BeforeEnd (IsReadPart left later) sent) → SentWhole left later sent
sent_whole left later sent (Ok x) w p = let h = w.2 in (w.0, h.read, files_of h.read, w.1, h.files, h.lost, inr (refl, h.ended))
sent_whole left later sent (Err x) w p = let h = p.2 in (p.0, h.read, h.done, p.1, h.files, h.lost, inl (h.rest, h.cut))

-- a batch that did not stop wrote all
pub all_written : {D : Type 0} (answers : List ℕ → ℕ → List (List ℕ)
    → Type 0) (left later held now : Option (List ℕ)) (got sent : List Message)
    (r : Result (Unit {0}) D) (read : Result (Unit {0}) StreamStop) (written : Result (Unit {0}) Halt) → OnOk r (IsOk read × IsOk written)
    → OnOk read (BeforeEnd (IsReadWhole left later) sent) → got ≡ sent → Progress answers held now got written
    → OnOk r (IsWritten answers left later held now)
all_written answers left later held now got sent (Err x) read written o w e p = tt
all_written answers left later held now got sent (Ok x) (Err y) written o w e p = absurd (true≢false (sym o.0))
all_written answers left later held now got sent (Ok x) (Ok y) (Err z) o w e p = absurd (true≢false (sym o.1))
all_written answers left later held now got sent (Ok x) (Ok y) (Ok z) o w e p =
    let h = w.2 in let all = progress_all answers held now got w.0 (files_of h.read) (e ∙ w.1) h.files (Ok z) p in
    record { read = h.read; text = all.0; lost = h.lost; ended = h.ended; within = h.within; blocks = all.1; gained = all.2 }
