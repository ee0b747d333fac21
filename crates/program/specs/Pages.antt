-- Texts that are written one after the other, of which a failed write leaves a front part.
use Rattle.std.specs.Prelude.{◌≡◌, ◌++◌, ◌≤◌, ℕ, List, length, take, Option, Some}
use Rattle.std.specs.List.{concat}
use Rattle.std.specs.Io.{StartsWith}
use Rattle.watch.specs.Notes.{WatcherState, left_after_all}
use Rattle.watch.specs.declared.note.Note.{Note}

-- of so many texts, and no more, the whole is in what was gained
pub record HoldsFirst (pages : List (List ℕ)) (gained : List ℕ) (count : ℕ) : Type 0 where
  pub within : count ≤ length pages
  pub front : StartsWith gained (concat (take count pages))
  pub greatest : (more : ℕ) → more ≤ length pages → StartsWith gained (concat (take more pages)) → more ≤ count

-- the watchers were told of so many texts, as many as out gained whole, where it tells its bytes
pub record TellsFirst (old new : Option (List ℕ)) (pages : List (List ℕ)) (notes : List Note)
    (before after : List WatcherState) : Type 0 where
  pub count : ℕ
  pub left : after ≡ left_after_all (take count notes) before
  pub holds : (bytes gained : List ℕ) → old ≡ Some bytes → new ≡ Some (bytes ++ gained) → HoldsFirst pages gained count
