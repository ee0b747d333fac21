use Rattle.std.proofs.Common.{◌≡◌, take}
use Rattle.watch.specs.Notes.{total_terms}
use Rattle.watch.proofs.note.Notes.terms.Given as goal

abbrev pub invariant-loop-note : goal.invariant-loop-note
invariant-loop-note l = l.sum ≡ total_terms (take l.note-index l.note-items)
