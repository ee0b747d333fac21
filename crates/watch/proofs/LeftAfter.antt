-- The watchers that are left after several notes.
use Rattle.std.proofs.Common.{◌≡◌, ◌<◌, ◌-◌, ◌++◌, ◌∷◌, [], List, ℕ, append_assoc, append-nil, arith, length}
use Rattle.std.proofs.Common.{length-append, refl, subst, sym}
use Rattle.std.specs.Prelude.{filter, nat_le}
use Rattle.std.specs.List.{All}
use Rattle.std.proofs.Math.Dec.{leb-zero}
use Rattle.std.proofs.lemmas.Bool.Decides.{nat_tests}
use Rattle.std.proofs.lemmas.List.Elements.{All-filter, All-map}
use Rattle.watch.specs.Notes.{WatcherState, left_after, left_after_all}
use Rattle.watch.specs.declared.note.Note.{Note}

-- no note leaves all as they are
pub left_after_all-nil : (states : List WatcherState) → left_after_all [] states ≡ states
left_after_all-nil [] = refl
left_after_all-nil (s ∷ ss) = grind (arith, leb-zero, append-nil, left_after_all-nil ss)

-- one more note
pub left_after_all-push : (notes : List Note) (note : Note) (states : List WatcherState)
    → left_after_all (notes ++ note ∷ []) states ≡ left_after note (left_after_all notes states)
left_after_all-push notes note [] = refl
left_after_all-push notes note (s ∷ ss) = grind (arith, nat_tests, length-append, append_assoc, left_after_all-push notes note ss)

-- those that are left after fewer notes than there is room for have room, where none was told before
pub room_left : (notes : List Note) (room : ℕ) (states : List WatcherState) → All (λ s. s.told ≡ []) states → length notes < room
    → All (λ s. length s.told < room) (left_after_all notes states)
room_left notes room states untold few =
    All-map (λ (s : WatcherState). length s.told < room)
    (λ (s : WatcherState). record { told = s.told ++ notes; patience = s.patience - length notes })
    (filter (λ (s : WatcherState). nat_le (length notes) s.patience) states)
    (All-filter (λ (s : WatcherState). nat_le (length notes) s.patience) (λ (s : WatcherState). length (s.told ++ notes) < room) states
    (λ k d lt. subst (λ (told : List Note). length (told ++ notes) < room) (sym (untold k d lt)) few))

-- told nothing before, and of one note now
pub room_after_one : (note : Note) (states left : List WatcherState) → All (λ s. s.told ≡ []) states → left ≡ left_after note states
    → All (λ s. length s.told < 64) left
room_after_one note states left untold is =
    grind (arith, left_after_all-push, left_after_all-nil states, room_left (note ∷ []) 64 states untold (omega arith))
