-- What lists of messages say when one more joins them, and that nothing is left where both sides ended.
use Rattle.std.proofs.Common.{◌≡◌, Bool, true, false, true≢false, List, [], ◌∷◌, ◌++◌, refl, sym, ap, ◌∙◌, append-nil}
use Rattle.std.specs.Prelude.{if◌then◌else◌}
use Rattle.file_relay.specs.declared.message.Message.{Message}
use Rattle.file_relay.specs.declared.message.Message.TheVariants.{File, End}
use Rattle.file_relay.specs.declared.link.Log.{Log}
use Rattle.file_relay.specs.Messages.{is_end, is_nil, has_no_end, ends_once}
use Rattle.file_relay.specs.Relayed.{log}

cases_end : (b : Bool) (p q : Bool) → (if b then false else p) ≡ true → (b ≡ false) × (p ≡ true)
cases_end true p q h = absurd (true≢false (sym h))
cases_end false p q h = (refl, h)

-- one more message that is no end mark
pub no_end-snoc : (ms : List Message) (m : Message) → has_no_end ms ≡ true → is_end m ≡ false → has_no_end (ms ++ m ∷ []) ≡ true
no_end-snoc [] m h e = rw e refl
no_end-snoc (x ∷ xs) m h e = let c = cases_end (is_end x) (has_no_end xs) true h in rw (c.0) (no_end-snoc xs m c.1 e)

-- the end mark behind messages that are none
pub ends-snoc : (ms : List Message) (m : Message) → has_no_end ms ≡ true → is_end m ≡ true → ends_once (ms ++ m ∷ []) ≡ true
ends-snoc [] m h e = rw e refl
ends-snoc (x ∷ xs) m h e = let c = cases_end (is_end x) (has_no_end xs) true h in rw (c.0) (ends-snoc xs m c.1 e)

nil_of : (xs ys : List Message) → is_nil (xs ++ ys) ≡ true → ys ≡ []
nil_of [] [] h = refl
nil_of [] (y ∷ ys) h = absurd (true≢false (sym h))
nil_of (x ∷ xs) ys h = absurd (true≢false (sym h))

left_of : (b : Bool) (got items : List Message) → (if b then is_nil (got ++ items) else ends_once (got ++ items)) ≡ true
    → (if b then is_nil got else ends_once got) ≡ true
    → ((ends_once (got ++ items) ≡ true) → (ends_once got ≡ true) → items ≡ []) → items ≡ []
left_of true got items h k rec = nil_of got items h
left_of false got items h k rec = rec h k

-- where what was sent ended, and what was taken did, nothing is left
pub nothing_left : (got items : List Message) → ends_once (got ++ items) ≡ true → ends_once got ≡ true → items ≡ []
nothing_left [] items h k = absurd (true≢false (sym k))
nothing_left (x ∷ xs) items h k = left_of (is_end x) xs items h k (nothing_left xs items)

-- ---- what a pass knows after one more message

-- one more was sent
pub sent_one : (old new : Log) (m : Message) → old ≡ log true false old.sent [] → new ≡ log true old.takes (old.sent ++ m ∷ []) old.got
    → (new ≡ log true false new.sent []) × (new.sent ≡ old.sent ++ m ∷ [])
sent_one old new m h k =
    let takes : old.takes ≡ false = ap (λ v. v.takes) h in
    let got : old.got ≡ [] = ap (λ v. v.got) h in
    let sent : new.sent ≡ old.sent ++ m ∷ [] = ap (λ v. v.sent) k in
    (k ∙ (λ i. log true (takes i) (sym sent i) (got i)), sent)

-- one more was taken
pub got_one : (old new : Log) (m : Message) → old ≡ log false true [] old.got → new ≡ log old.sends true old.sent (old.got ++ m ∷ [])
    → (new ≡ log false true [] new.got) × (new.got ≡ old.got ++ m ∷ [])
got_one old new m h k =
    let sends : old.sends ≡ false = ap (λ v. v.sends) h in
    let sent : old.sent ≡ [] = ap (λ v. v.sent) h in
    let got : new.got ≡ old.got ++ m ∷ [] = ap (λ v. v.got) k in
    (k ∙ (λ i. log (sends i) true (sent i) (sym got i)), got)

-- all that was sent was taken
pub came_through : (sent got items : List Message) → sent ≡ got ++ items → ends_once sent ≡ true → ends_once got ≡ true → got ≡ sent
came_through sent got items h s t =
    let none = nothing_left got items (ap ends_once (sym h) ∙ s) t in
    sym (h ∙ ap (λ l. got ++ l) none ∙ append-nil got)

-- a message other than the end mark
pub other_than_end : (m : Message) → (m ≡ End → ⊥) → is_end m ≡ false
other_than_end (File number file) h = refl
other_than_end End h = absurd (h refl)
