-- Texts that are written one after the other, with what the watchers are told of each.
use Rattle.std.proofs.Common.{◌≡◌, ◌∙◌, ◌+◌, ◌++◌, ◌<◌, ◌≤◌, List, Option, Some, [], ap, arith, get_or}
use Rattle.std.proofs.Common.{length, length-append, length-take}
use Rattle.std.proofs.Common.{append_assoc, rules, sym, take, ⊎_elim, ℕ}
use Rattle.std.specs.Io.{StartsWith}
use Rattle.std.specs.Io.KnownBytes.{Appends}
use Rattle.std.specs.List.{All, concat}
use Rattle.std.proofs.Math.Seq.{take-append_seam}
use Rattle.std.proofs.lemmas.Bool.Decides.{leb_tells}
use Rattle.std.proofs.lemmas.List.{append_cancel_left, take-append-drop, take-take, take_more}
use Rattle.std.proofs.lemmas.List.Folds.{concat-append}
use Rattle.outside.specs.Causes.{GainsLess}
use Rattle.outside.proofs.Known.{page_more}
use Rattle.watch.specs.Notes.{WatcherState, left_after, left_after_all}
use Rattle.watch.specs.declared.note.Note.{Note}
use Rattle.watch.proofs.LeftAfter.{left_after_all-push, room_left}
use Rattle.program.specs.Pages.{HoldsFirst, TellsFirst}

-- ---- the watchers that are left

-- One note more was told,
pub told_more : (notes : List Note) (i : ℕ) (note : Note) (before middle after : List WatcherState) → i < length notes
    → note ≡ get_or notes i note
    → middle ≡ left_after_all (take i notes) before → after ≡ left_after note middle → after ≡ left_after_all (take (i + 1) notes) before
told_more notes i note before middle after within is sofar here =
    rw (here, sofar, take_more notes i note within, ← is) (sym (left_after_all-push (take i notes) note before))

-- and there is room for one more.
pub room_for_more : (notes : List Note) (i : ℕ) (before middle : List WatcherState) → i < length notes → length notes ≤ 64
    → All (λ s. s.told ≡ []) before → middle ≡ left_after_all (take i notes) before → All (λ s. length s.told < 64) middle
room_for_more notes i before middle within few untold is =
    rw is (room_left (take i notes) 64 before untold (omega (arith, length-take i notes)))

-- ---- a write failed

holds_first : (pages : List (List ℕ)) (i : ℕ) (page part gained : List ℕ) → i < length pages → page ≡ get_or pages i page
    → length part < length page → gained ≡ concat (take i pages) ++ part → HoldsFirst pages gained i
holds_first pages i page part gained within is less all = record {
  within = omega (arith, within);
  front = ap (take (length (concat (take i pages)))) all ∙ take-append_seam (concat (take i pages)) part;
  greatest = λ more fits starts. ⊎_elim (λ le. le.1) (λ over. absurd (too_long more (omega (arith, over.1)) starts)) (leb_tells more i);
}
  where
    too_long : (more : ℕ) → i + 1 ≤ more → StartsWith gained (concat (take more pages)) → ⊥
    too_long more over starts =
        let longer = simp (concat-append, length-append, take-take) at (ap (λ ps. length (concat ps))
        (take-append-drop (i + 1) (take more pages))) in
        omega (
          arith,
          longer,
          ap length (page_more pages i page within),
          length-append (concat (take i pages)) (get_or pages i page),
          ap length is,
          ap length all,
          length-append (concat (take i pages)) part,
          ap length starts,
          length-take (length (concat (take more pages))) gained,
        )

gained_is : (old middle new : Option (List ℕ)) (start part bytes gained : List ℕ) → Appends old middle start → Appends middle new part
    → old ≡ Some bytes → new ≡ Some (bytes ++ gained) → gained ≡ start ++ part
gained_is old middle new start part bytes gained h k a b = grind (arith, append_assoc, append_cancel_left)

-- The watchers were told of the pages before the one whose write failed.
pub stopped_at : (old middle new : Option (List ℕ)) (pages : List (List ℕ)) (notes : List Note) (i : ℕ) (page : List ℕ)
    (before after : List WatcherState)
    → i < length pages → page ≡ get_or pages i page
    → Appends old middle (concat (take i pages)) → GainsLess middle new page → after ≡ left_after_all (take i notes) before
    → TellsFirst old new pages notes before after
stopped_at old middle new pages notes i page before after within is sofar here left = search (rules, arith, holds_first, gained_is)
