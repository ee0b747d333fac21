-- The lines of queries in turn, and that what they ask fits the description.
use Rattle.std.proofs.Common.{◌≡◌, ℕ, ◌+◌, ◌<◌, ◌≤◌, Bool, true, false, cond, List, [], ◌∷◌, ◌++◌, length, None, Ok, Err, refl, arith}
use Rattle.std.specs.Option.{option_map_or}
use Rattle.std.specs.List.{All}
use Rattle.std.proofs.lemmas.List.Elements.{All-nil, All-push}
use Rattle.lattice.specs.Words.{is_empty}
use Rattle.pla_reader.specs.Lines.{lines_of}
use Rattle.pla_reader.specs.Parts.{Stops, text_refusal}
use Rattle.pla_reader.specs.declared.refusal.LineRefusal.{LineRefusal}
use Rattle.pla_reader.specs.declared.refusal.LineRefusal.TheVariants as line_refusals
use Rattle.cert_check.specs.Reading.{bare, words}
use Rattle.nf_run.specs.Queries.{GivesQueries, IsQueryOver, queries_on, query_fault, query_of}
use Rattle.nf_run.specs.declared.queries.Query.{Query}
use Rattle.nf_run.specs.declared.queries.QueryWhy.{QueryWhy}

-- ---- the lines in turn

-- so many lines were read, the rest of the text goes on from what they gave, and that fits the description
pub record ReadsQueries (ins outs : List (List ℕ)) (text rest : List ℕ) (count : ℕ) (read : List Query) : Type 0 where
  pub goes_on : queries_on ins outs 0 [] (lines_of text) ≡ queries_on ins outs count read (lines_of rest)
  pub room : count + length rest ≤ length text
  pub over : All (IsQueryOver (length ins) (length outs)) read

pub none_read : (ins outs : List (List ℕ)) (text : List ℕ) (read : List Query) → read ≡ [] → ReadsQueries ins outs text text 0 read
none_read ins outs text read none = rw none (record { goes_on = refl; room = omega arith; over = All-nil _ })

module _ (ins outs : List (List ℕ)) (text rest : List ℕ) (count : ℕ) (read : List Query)
    (so_far : ReadsQueries ins outs text rest count read) where
  module _ (line after trimmed : List ℕ) (cut : lines_of rest ≡ line ∷ lines_of after) (some : 0 < length line)
      (all : length line + length after ≡ length rest) (bare_is : trimmed ≡ bare line) {b : Bool} (empty_is : is_empty trimmed ≡ b) where
    next_line : queries_on ins outs 0 [] (lines_of text) ≡ cond b (queries_on ins outs (count + 1) read (lines_of after))
        (option_map_or (λ why. Err (count + 1, why)) (query_fault ins outs (words trimmed))
        (queries_on ins outs (count + 1) (read ++ query_of ins outs (words trimmed) ∷ []) (lines_of after)))
    unfolding queries_on
    next_line = rw (so_far.goes_on, cut, ← bare_is, empty_is) refl

    pub line_skipped : b ≡ true → ReadsQueries ins outs text after (count + 1) read
    line_skipped empty = let r = so_far.room in record { goes_on = rw empty at next_line; room = omega arith; over = so_far.over }

    pub line_added : {new : List Query} {q : Query} → b ≡ false → query_fault ins outs (words trimmed) ≡ None
        → q ≡ query_of ins outs (words trimmed) → IsQueryOver (length ins) (length outs) q → new ≡ read ++ q ∷ []
        → ReadsQueries ins outs text after (count + 1) new
    line_added {new = new} {q = q} filled fine asks fits is = let r = so_far.room in record {
      goes_on = rw (next_line, filled, fine, is, asks) refl;
      room = omega arith;
      over = rw is (All-push (IsQueryOver (length ins) (length outs)) read q so_far.over fits);
    }

    pub line_refused : (e : LineRefusal QueryWhy) → b ≡ false → Stops e (query_fault ins outs (words trimmed))
        → GivesQueries (Err (text_refusal e (count + 1))) (queries_on ins outs 0 [] (lines_of text))
    line_refused line_refusals.Memory filled stops = tt
    line_refused (line_refusals.Bad why) filled stops = rw (next_line, filled, stops) refl

  pub all_read : rest ≡ [] → queries_on ins outs 0 [] (lines_of text) ≡ Ok read
  unfolding queries_on
  all_read nothing = rw (so_far.goes_on, nothing) refl
