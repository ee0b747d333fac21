-- The blocks of the messages so far, when one more is written.
use Rattle.std.proofs.Common.{◌≡◌, ℕ, List, [], ◌∷◌, ◌++◌, refl, sym, ap, ◌∙◌, append_assoc, append-nil}
use Rattle.std.specs.Prelude.{true, false, Option, Result, Ok, Err, OnOk, OnErr, is_err}
use Rattle.std.proofs.Common.{true≢false}
use Rattle.std.specs.Io.KnownBytes.{Appends}
use Rattle.file_relay.specs.declared.message.Message.{Message}
use Rattle.file_batch.specs.Progress.{AreTold, HasWritten, IsToldOf, Progress, going, stopped, whole, part, nothing}
use Rattle.file_batch.specs.declared.progress.Halt.{Halt}
use Rattle.file_batch.specs.declared.progress.Halt.TheVariants.{Fault, Memory}
use Rattle.outside.proofs.Known.{all_front, appends_both, front_after}

-- ---- results that are known to be one or the other

pub on_ok : {X E P : Type 0} (r : Result X E) → P → OnOk r P
on_ok (Ok x) p = p
on_ok (Err e) p = tt

pub no_ok : {X E : Type 0} (P : Type 0) (r : Result X E) → is_err r ≡ true → OnOk r P
no_ok P (Ok x) e = absurd (true≢false (sym e))
no_ok P (Err x) e = tt

pub no_err : {X E : Type 0} (P : Type 0) (r : Result X E) → is_err r ≡ false → OnErr r P
no_err P (Ok x) e = tt
no_err P (Err x) e = absurd (true≢false e)

-- ---- blocks

module _ (answers : List ℕ → ℕ → List (List ℕ) → Type 0) where
  told-snoc : (ms : List Message) (m : Message) (a b : List ℕ) → AreTold answers ms a → IsToldOf answers m b
      → AreTold answers (ms ++ m ∷ []) (a ++ b)
  told-snoc [] m a b h k = (b, [], k, refl, ap (λ t. t ++ b) h ∙ sym (append-nil b))
  told-snoc (x ∷ ms) m a b h k = (h.0, h.1 ++ b, h.2, told-snoc ms m h.1 b h.3 k, ap (λ t. t ++ b) h.4 ∙ append_assoc h.0 h.1 b)

  after_one : (start old new : Option (List ℕ)) (got : List Message) (m : Message) (text : List ℕ) (result : Result (Unit {0}) Halt)
      → AreTold answers got text → Appends start old text → HasWritten (IsToldOf answers m) old new result
      → Progress answers start new (got ++ m ∷ []) result
  after_one start old new got m text _ t a (whole block is k)
      = going (text ++ block) (told-snoc got m text block t is) (appends_both start old new text block a k)
  after_one start old new got m text _ t a (part block is k) =
      stopped Fault (got ++ m ∷ []) [] (text ++ block) (sym (append-nil (got ++ m ∷ []))) (told-snoc got m text block t is)
      (front_after start old new text block a k)
  after_one start old new got m text _ t a (nothing same) = stopped Memory got (m ∷ []) text refl t (rw same (all_front start old text a))

  -- one more message, after which nothing more is written where something stopped the writing before
  pub one_more : (start old new : Option (List ℕ)) (got : List Message) (m : Message) (written result : Result (Unit {0}) Halt)
      → Progress answers start old got written → OnOk written (HasWritten (IsToldOf answers m) old new result)
      → OnErr written ((new ≡ old) × (result ≡ written)) → Progress answers start new (got ++ m ∷ []) result
  one_more start old new got m _ result (going text t a) w s = after_one start old new got m text result t a w
  one_more start old new got m _ result (stopped halt told later text e t f) w s =
      rw s.1 (stopped halt told (later ++ m ∷ []) text (ap (λ l. l ++ m ∷ []) e ∙ append_assoc told later (m ∷ [])) t (rw s.0 f))
