-- The lines of a text, read one after the other, and what is answered once all were read.
use Rattle.pla_reader.specs.declared.refusal.LineRefusal.TheVariants as line_refusal
use Rattle.std.proofs.Common.{◌≡◌, ℕ, ◌+◌, ◌-◌, ◌<◌, ◌≤◌, Bool, cond, List, [], ◌∷◌, ◌++◌, length, map, sum_by, Some, None, refl, ap}
use Rattle.std.proofs.Common.{append_assoc, arith, Ok, Err}
use Rattle.std.specs.Option.{option_zip, unwrap_or}
use Rattle.std.proofs.lemmas.List.{map_push, length-map, length_push, append-nil}
use Rattle.std.proofs.lemmas.List.Sums.{sum_by_push}
use Rattle.pla_reader.specs.declared.refusal.Why.{Why}
use Rattle.pla_reader.specs.declared.refusal.LineRefusal.{LineRefusal}
use Rattle.pla_reader.specs.declared.draft.Draft.{Draft}
use Rattle.pla_reader.specs.Lines.{lines_of, content}
use Rattle.pla_reader.specs.Grammar.{is_end, fault_of, sizes_given}
use Rattle.pla_reader.specs.Reading.{up_to_end, description_lines, first_fault, bytes_taken, description_of, reading_of, GivesReading}
use Rattle.pla_reader.specs.Parts.{read_refusal, Stops, Refuses}
use Rattle.pla_reader.specs.Draft.{IsDraftOf, AllRead, AddsLine, said}
use Rattle.lattice.specs.declared.kind.Kind.TheVariants.{Fd}
use Rattle.pla_reader.specs.declared.refusal.Why.TheVariants.{NoSize}
use Rattle.pla_reader.specs.declared.refusal.ReadRefusal.{ReadRefusal}
use Rattle.pla_reader.specs.declared.refusal.ReadRefusal.TheVariants.{Bad, Memory}
use Rattle.pla_reader.proofs.DraftSteps.{sizes_are}
use Rattle.lattice.proofs.Polynomials.{value_given}

-- the texts at the front were read, and the later ones, with so many bytes left, were not
pub record ReadSoFar (bytes : List ℕ) (later : List (List ℕ)) (left : ℕ) (draft : Draft) (count : ℕ) : Type 0 where
  pub front : List (List ℕ)
  pub texts : up_to_end (lines_of bytes) ≡ front ++ later
  pub fine : first_fault [] (description_lines bytes) ≡ first_fault (map content front) (map content later)
  pub agrees : IsDraftOf draft (map content front)
  pub counted : count ≡ length front
  pub room : count + left ≤ length bytes
  pub all_bytes : sum_by length front + left ≡ length bytes

-- the next text
next_text : (bytes line after : List ℕ) → lines_of bytes ≡ line ∷ lines_of after
    → up_to_end (lines_of bytes) ≡ line ∷ cond (is_end (content line)) [] (up_to_end (lines_of after))
unfolding up_to_end
next_text bytes line after cut = ap up_to_end cut

no_fault : (earlier : List (List ℕ)) (line : List ℕ) (lines : List (List ℕ)) → fault_of earlier line ≡ None
    → first_fault earlier (line ∷ lines) ≡ first_fault (earlier ++ line ∷ []) lines
unfolding first_fault
no_fault earlier line lines e = rw e refl

a_fault : (earlier : List (List ℕ)) (line : List ℕ) (lines : List (List ℕ)) (why : Why) → fault_of earlier line ≡ Some why
    → first_fault earlier (line ∷ lines) ≡ Some (record { line = length earlier + 1; why = why })
unfolding first_fault
a_fault earlier line lines why e = rw e refl

module _ (bytes rest : List ℕ) (draft : Draft) (count : ℕ) (so_far : ReadSoFar bytes (up_to_end (lines_of rest)) (length rest) draft count)
    (line after : List ℕ) (cut : lines_of rest ≡ line ∷ lines_of after) (some : 0 < length line)
    (all : length line + length after ≡ length rest) where
  pub step : (new : Draft) (ends : Bool)
      → ((earlier : List (List ℕ)) → length earlier + 1 ≡ count + 1 → IsDraftOf draft earlier
      → AddsLine (Ok ends) new earlier (content line))
      → ReadSoFar bytes (cond ends [] (up_to_end (lines_of after))) (length after) new (count + 1)
  step new ends adds =
      let now = adds (map content so_far.front) (omega (arith, so_far.counted, length-map so_far.front content)) so_far.agrees in
      let next = next_text rest line after cut in
      record {
        front = so_far.front ++ line ∷ [];
        texts = grind (arith, append_assoc);
        fine = grind (arith, no_fault, map_push);
        agrees = rw (map_push content so_far.front line) now.2;
        counted = grind (arith, length_push);
        room = omega (arith, so_far.room);
        all_bytes = omega (arith, sum_by_push length so_far.front line, so_far.all_bytes);
      }

  pub stopped : (e : LineRefusal Why)
      → ((earlier : List (List ℕ)) → length earlier + 1 ≡ count + 1 → IsDraftOf draft earlier → Stops e (fault_of earlier (content line)))
      → Refuses (read_refusal e (count + 1)) (first_fault [] (description_lines bytes))
  stopped (line_refusal.Memory) adds = tt
  stopped (line_refusal.Bad why) adds =
      let long : length (map content so_far.front) ≡ count = omega (arith, so_far.counted, length-map so_far.front content) in
      let now = adds (map content so_far.front) (omega arith) so_far.agrees in
      let next = next_text rest line after cut in grind (arith, a_fault)

-- no text is left
pub whole_read : (bytes : List ℕ) (left : ℕ) (draft : Draft) (count taken : ℕ) → ReadSoFar bytes [] left draft count
    → taken ≡ length bytes - left → AllRead bytes draft count taken
unfolding first_fault bytes_taken
whole_read bytes left draft count taken so_far is = grind (arith, append-nil, length-map)

pub end_of_text : up_to_end (lines_of []) ≡ []
unfolding up_to_end
end_of_text = refl

-- ---- what is answered once all lines were read

pub answers_refusal : (bytes : List ℕ) (e : ReadRefusal) → Refuses e (first_fault [] (description_lines bytes))
    → GivesReading (Err e) (reading_of bytes)
unfolding reading_of
answers_refusal bytes Memory h = tt
answers_refusal bytes (Bad refusal) h = rw h refl

module _ (bytes : List ℕ) (draft : Draft) (count taken : ℕ) (read : AllRead bytes draft count taken) where
  sizes : sizes_given (description_lines bytes) ≡ option_zip draft.inputs draft.outputs
  sizes = sizes_are (said draft) (description_lines bytes) read.agrees

  pub no_size : option_zip draft.inputs draft.outputs ≡ None → reading_of bytes ≡ Err (record { line = count; why = NoSize })
  unfolding reading_of
  no_size none = let s = sizes in grind arith

  pub read_whole : (inputs outputs : ℕ) → option_zip draft.inputs draft.outputs ≡ Some (inputs, outputs) → reading_of bytes ≡ Ok (record {
    inputs = inputs;
    outputs = outputs;
    kind = unwrap_or draft.kind Fd;
    rows = draft.rows;
    in_names = unwrap_or draft.in_names [];
    out_names = unwrap_or draft.out_names [];
  })
  unfolding reading_of description_of
  read_whole inputs outputs both = let s = sizes in grind (arith, value_given)
