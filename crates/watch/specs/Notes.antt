-- What watchers were told, and the lines on notes.
use Rattle.std.specs.Prelude.{◌++◌, ◌∷◌, ◌-◌, ◌^◌, [], List, ℕ, codes, decimal, filter, length, map, min, nat_le, nat_lt, sum_by}
use Rattle.watch.specs.declared.note.Note.{Note}

-- the sum of their terms, up to the greatest u64
abbrev pub total_terms : List Note → ℕ
total_terms notes = min (sum_by (λ note. note.terms) notes) (2 ^ 64 - 1)

-- a watcher, as contracts see it: the notes that it was told, and how many more it wants
pub record WatcherState : Type 0 where
  pub told : List Note
  pub patience : ℕ

-- the same of a watcher that writes lines, with its sink
pub record LinesState (K : Type 0) : Type 0 where
  pub told : List Note
  pub patience : ℕ
  pub sink : K

-- the states of some watchers
abbrev pub states_by : {W : Type 0} → (W → List Note) → (W → ℕ) → List W → List WatcherState
states_by told patience = map (λ w. record { told = told w; patience = patience w })

-- the state after one more note
abbrev pub after_note : Note → WatcherState → WatcherState
after_note note s = record { told = s.told ++ note ∷ []; patience = s.patience - 1 }

-- the watchers that are left after a note: those with patience, in their order
abbrev pub left_after : Note → List WatcherState → List WatcherState
left_after note states = map (after_note note) (filter (λ s. nat_lt 0 s.patience) states)

-- those that are left after some notes: those with patience for each, told of all
abbrev pub left_after_all : List Note → List WatcherState → List WatcherState
left_after_all notes states = map (λ s. record { told = s.told ++ notes; patience = s.patience - length notes })
    (filter (λ s. nat_le (length notes) s.patience) states)

-- the line on a note
abbrev pub line_of : Note → List ℕ
line_of note = codes "output " ++ decimal note.output ++ codes ": " ++ decimal note.terms
    ++ codes " terms, " ++ decimal note.basis ++ codes " basis\n"
