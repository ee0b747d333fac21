-- Telling watchers one after another, and keeping those with patience in front.
use Rattle.std.proofs.Common.{Bool, ◌≡◌, ◌∙◌, ◌≤◌, ◌<◌, ◌+◌, ◌-◌, ◌++◌, ◌∷◌, [], List, ℕ, ap, append-nil, arith, false, length, refl, sym}
use Rattle.std.proofs.Common.{take}
use Rattle.std.specs.Prelude.{IsTrue, swap}
use Rattle.std.specs.List.{All, slice_index_or, slice_set}
use Rattle.std.proofs.lemmas.Bool.{lt-ltb}
use Rattle.std.proofs.lemmas.Grind.{common_steps}
use Rattle.std.proofs.lemmas.List.{get_or-map, get_or-set_other, get_or-set_same, length-map, length-set, map-append, take-set-le}
use Rattle.std.proofs.lemmas.List.{take_more}
use Rattle.std.proofs.lemmas.List.Edits.{length-swap, swap_is}
use Rattle.std.proofs.lemmas.List.Elements.{filter-append}
use Rattle.watch.specs.Notes.{WatcherState, after_note, left_after, states_by}
use Rattle.watch.specs.declared.note.Note.{Note}

-- the watchers before place `at` were told, and those of them that are left stand before place `kept`
pub record IsToldTo {W : Type 0} (old now : List W) (told : W → List Note) (patience : W → ℕ) (note : Note) (kept at : ℕ) : Type 0 where
  pub same_length : length now ≡ length old
  pub kept_below : kept ≤ at
  pub at_within : at ≤ length old
  pub left : states_by told patience (take kept now) ≡ left_after note (states_by told patience (take at old))
  pub untold : (k : ℕ) (d : W) → at ≤ k → slice_index_or now k d ≡ slice_index_or old k d
  pub room : (k : ℕ) (d : W) → at ≤ k → k < length now → length (told (slice_index_or now k d)) < 64

-- at first none was told
pub none_told : {W : Type 0} {ws : List W} {told : W → List Note} {patience : W → ℕ} {note : Note}
    → All (λ s. length s.told < 64) (states_by told patience ws) → IsToldTo ws ws told patience note 0 0
none_told {W = W} {ws = ws} {told = told} {patience = patience} room =
    let state : W → WatcherState = λ w. record { told = told w; patience = patience w } in
    record {
      same_length = refl;
      kept_below = omega arith;
      at_within = omega arith;
      left = refl;
      untold = λ k d high. refl;
      room = λ k d high lt. grind (arith, room k (state d), length-map ws state, get_or-map state ws k d (state d) lt);
    }

-- one more watcher, the last
left_after-push : (note : Note) (ss : List WatcherState) (s : WatcherState)
    → left_after note (ss ++ s ∷ []) ≡ left_after note ss ++ left_after note (s ∷ [])
left_after-push note ss s = simp (filter-append, map-append)

-- the place of the last that is kept and the place of the next one, swapped
take-swap : {W : Type 0} (xs : List W) (kept at : ℕ) (x : W) → kept ≤ at → at < length xs
    → take (kept + 1) (swap xs kept at) ≡ take kept xs ++ slice_index_or xs at x ∷ []
take-swap xs kept at x below low = rw (← swap_is xs kept at x (omega arith) low) (grind (arith, common_steps))

get_or-swap_after : {W : Type 0} (xs : List W) (kept at k : ℕ) (d : W) → kept ≤ at → at < length xs → at + 1 ≤ k
    → slice_index_or (swap xs kept at) k d ≡ slice_index_or xs k d
get_or-swap_after xs kept at k d below low high = rw (← swap_is xs kept at d (omega arith) low) (grind (arith, get_or-set_other))

module _ {W : Type 0} {old now : List W} {told : W → List Note} {patience : W → ℕ} {note : Note} {kept at : ℕ}
    (before : IsToldTo old now told patience note kept at) where
  abbrev state : W → WatcherState
  state w = record { told = told w; patience = patience w }

  next_left : {x : W} → at < length now → x ≡ slice_index_or now at x → left_after note (states_by told patience (take (at + 1) old))
      ≡ left_after note (states_by told patience (take at old)) ++ left_after note (state x ∷ [])
  next_left {x = x} low is =
      let next : slice_index_or old at x ≡ x = sym (is ∙ before.untold at x (omega arith)) in
      rw (take_more old at x (grind (arith, before.same_length)), next, map-append state (take at old) (x ∷ []))
      (left_after-push note (states_by told patience (take at old)) (state x))

  -- one more was told, and what is left of it stands behind those that were left
  one_told : {x : W} → at < length now → x ≡ slice_index_or now at x → (now' : List W) (kept' : ℕ) → length now' ≡ length now
      → kept' ≤ at + 1 → ((k : ℕ) (d : W) → at + 1 ≤ k → slice_index_or now' k d ≡ slice_index_or now k d)
      → states_by told patience (take kept' now') ≡ states_by told patience (take kept now) ++ left_after note (state x ∷ [])
      → IsToldTo old now' told patience note kept' (at + 1)
  one_told {x = x} low is now' kept' long below same left = record {
    same_length = long ∙ before.same_length;
    kept_below = below;
    at_within = grind (arith, before.same_length);
    left = left ∙ ap (λ (ss : List WatcherState). ss ++ left_after note (state x ∷ [])) before.left ∙ sym (next_left low is);
    untold = λ k d high. same k d high ∙ before.untold k d (omega arith);
    room = λ k d high lt. rw (same k d high) (before.room k d (omega arith) (omega arith));
  }

  module _ {now' : List W} {kept' : ℕ} {x y : W} (low : at < length now) (is : x ≡ slice_index_or now at x) where
    -- a watcher without patience stays where it is
    pub one_dropped : now' ≡ slice_set now at y → kept' ≡ kept → told y ≡ told x ++ note ∷ [] → patience y ≡ patience x - 1 → patience x ≡ 0
        → IsToldTo old now' told patience note kept' (at + 1)
    one_dropped now_is kept_is told_is patience_is none =
        rw (now_is, kept_is) (one_told low is (slice_set now at y) kept (length-set now at y) (let b = before.kept_below in omega arith)
        (λ k d high. get_or-set_other now at k y d (λ e. omega arith))
        (rw (take-set-le kept now at y before.kept_below, none) (sym (append-nil _))))

    -- one with patience is put behind those that are left
    pub one_kept : now' ≡ swap (slice_set now at y) kept at → kept' ≡ kept + 1 → told y ≡ told x ++ note ∷ [] → patience y ≡ patience x - 1
        → 1 ≤ patience x → IsToldTo old now' told patience note kept' (at + 1)
    one_kept now_is kept_is told_is patience_is some =
        let ys = slice_set now at y in let long = length-set now at y in
        let below = before.kept_below in let in_ys : at < length ys = omega arith in
        let state_is : state y ≡ after_note note (state x) = λ i. record { told = told_is i; patience = patience_is i } in
        rw (now_is, kept_is) (one_told low is (swap ys kept at) (kept + 1) (length-swap ys kept at ∙ long) (omega arith)
        (λ k d high. get_or-swap_after ys kept at k d below in_ys high ∙ get_or-set_other now at k y d (λ e. omega arith))
        (rw (take-swap ys kept at y below in_ys, take-set-le kept now at y below, get_or-set_same now at y y low)
        (rw (map-append state (take kept now) (y ∷ []), state_is, lt-ltb 0 (patience x) some) refl)))

-- an answer of false tells that there was no patience
pub no_patience : (p : ℕ) (b : Bool) → (1 ≤ p → IsTrue b) → b ≡ false → p ≡ 0
no_patience p b answers is = grind (arith, answers)
