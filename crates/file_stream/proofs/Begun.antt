-- A file is read byte by byte.
use Rattle.std.proofs.Common.{◌≡◌, ℕ, true, false, List, [], ◌∷◌, ◌++◌, refl, sym, ap, ◌∙◌, append_assoc, append-nil, inl, inr}
use Rattle.std.proofs.Common.{true≢false}
use Rattle.std.specs.Prelude.{◌==◌, ◌||◌}
use Rattle.std.specs.List.{concat, list_any, onto_first}
use Rattle.std.proofs.lemmas.Bool.{cases_Bool, or_parts}
use Rattle.pla_reader.specs.Lines.{lines_of}
use Rattle.file_stream.specs.Files.{closes, says, files_from, files_of, IsFirstFile}
use Rattle.file_stream.specs.Cutters.{has_no_feed, IsBegun}
use Rattle.std.proofs.Math.Bool.{or-false}
use Rattle.lattice.proofs.Polynomials.{any_push, concat-line}
use Rattle.file_stream.proofs.Words.{closes_says, feed_cases, says-nothing}

no_feed-snoc : (l : List ℕ) (b : ℕ) → has_no_feed l ≡ true → (b == 10) ≡ false → has_no_feed (l ++ b ∷ []) ≡ true
no_feed-snoc [] b h e = rw e refl
no_feed-snoc (x ∷ l) b h e = let c = feed_cases x l h in rw (c.0) (no_feed-snoc l b c.1 e)

lines-feed : (l rest : List ℕ) → has_no_feed l ≡ true → lines_of (l ++ 10 ∷ rest) ≡ (l ++ 10 ∷ []) ∷ lines_of rest
lines-feed [] rest h = refl
lines-feed (b ∷ l) rest h = let c = feed_cases b l h in rw (c.0) (ap (onto_first b) (lines-feed l rest c.1))

-- a part of a line that is the last one
lines-last : (b : ℕ) (l : List ℕ) → has_no_feed (b ∷ l) ≡ true → lines_of (b ∷ l) ≡ (b ∷ l) ∷ []
lines-last b [] h = let c = feed_cases b [] h in rw (c.0) refl
lines-last b (x ∷ l) h = let c = feed_cases b (x ∷ l) h in rw (c.0) (ap (onto_first b) (lines-last x l c.1))

pub begun_empty : IsBegun [] [] []
begun_empty = record { files = λ rest. refl; unfed = refl; bytes = refl }

-- one more byte of a line
pub begun_byte : (file : List ℕ) (front : List (List ℕ)) (line : List ℕ) (b : ℕ) → (b == 10) ≡ false → IsBegun file front line
    → IsBegun (file ++ b ∷ []) front (line ++ b ∷ [])
begun_byte file front line b e h = record {
  files = λ rest. ap files_of (append_assoc file (b ∷ []) rest)
      ∙ (h.files (b ∷ rest) ∙ ap (λ t. files_from front (lines_of t)) (sym (append_assoc line (b ∷ []) rest)));
  unfed = no_feed-snoc line b h.unfed e;
  bytes = sym (append_assoc (concat front) line (b ∷ [])) ∙ ap (λ t. t ++ b ∷ []) h.bytes;
}

module _ (file : List ℕ) (front : List (List ℕ)) (line : List ℕ) (h : IsBegun file front line) where
  line_bytes : concat (front ++ (line ++ 10 ∷ []) ∷ []) ≡ file ++ 10 ∷ []
  line_bytes = concat-line front (line ++ 10 ∷ []) ∙ (sym (append_assoc (concat front) line (10 ∷ [])) ∙ ap (λ t. t ++ 10 ∷ []) h.bytes)

  line_files : (rest : List ℕ) → files_of ((file ++ 10 ∷ []) ++ rest) ≡ files_from front ((line ++ 10 ∷ []) ∷ lines_of rest)
  line_files rest = ap files_of (append_assoc file (10 ∷ []) rest)
      ∙ (h.files (10 ∷ rest) ∙ ap (files_from front) (lines-feed line rest h.unfed))

  -- a line that ends the file
  pub begun_ends : closes (line ++ 10 ∷ []) ≡ true → IsFirstFile (file ++ 10 ∷ [])
  begun_ends e rest = line_files rest ∙ rw (e, line_bytes) refl

  -- another line
  pub begun_line : closes (line ++ 10 ∷ []) ≡ false → IsBegun (file ++ 10 ∷ []) (front ++ (line ++ 10 ∷ []) ∷ []) []
  begun_line e = record {
    files = λ rest. line_files rest
        ∙ rw e refl;
    unfed = refl;
    bytes = append-nil (concat (front ++ (line ++ 10 ∷ []) ∷ [])) ∙ line_bytes;
  }

  -- the end of the stream
  end_files : files_of file ≡ files_from front (lines_of line)
  end_files = ap files_of (sym (append-nil file)) ∙ (h.files [] ∙ ap (λ t. files_from front (lines_of t)) (append-nil line))

-- what is left at the end of the stream is a file where something stands on one of its lines
last_file : (front : List (List ℕ)) (line : List ℕ) → has_no_feed line ≡ true → (list_any says front || says line) ≡ true
    → files_from front (lines_of line) ≡ (concat front ++ line) ∷ []
last_file front [] u some =
    let said : list_any says front ≡ true = sym (or-false (list_any says front)) ∙ rw says-nothing at some in
    rw said (ap (λ t. t ∷ []) (sym (append-nil (concat front))))
last_file front (b ∷ l) u some = rw (lines-last b l u) (elim (cases_Bool (closes (b ∷ l))) [
  | inl e ↦ rw e (ap (λ t. t ∷ []) (concat-line front (b ∷ l)))
  | inr e ↦ rw (e, any_push says front (b ∷ l), some) (ap (λ t. t ∷ []) (concat-line front (b ∷ l)))
])

no_file : (front : List (List ℕ)) (line : List ℕ) → has_no_feed line ≡ true → (list_any says front || says line) ≡ false
    → files_from front (lines_of line) ≡ []
no_file front [] u none =
    rw (or_parts (list_any says front) (says []) none).0 refl
no_file front (b ∷ l) u none = rw (lines-last b l u) (elim (cases_Bool (closes (b ∷ l))) [
  | inl e ↦ absurd (true≢false (sym (closes_says (b ∷ l) e) ∙ (or_parts (list_any says front) (says (b ∷ l)) none).1))
  | inr e ↦ rw (e, any_push says front (b ∷ l), none) refl
])

module _ (file : List ℕ) (front : List (List ℕ)) (line : List ℕ) (h : IsBegun file front line) where
  pub end_file : (list_any says front || says line) ≡ true → files_of file ≡ file ∷ []
  end_file some = end_files file front line h ∙ (last_file front line h.unfed some ∙ ap (λ t. t ∷ []) h.bytes)

  pub end_none : (list_any says front || says line) ≡ false → files_of file ≡ []
  end_none none = end_files file front line h ∙ no_file front line h.unfed none
