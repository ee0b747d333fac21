-- What a text asks, or why it is refused, line by line. The form of a line, its names and the order of its terms are those of an answer.
use Rattle.std.specs.Prelude.{◌≡◌, ℕ, ◌+◌, ◌^◌, ◌≤◌, not, List, [], ◌∷◌, ◌++◌, length, reverse, codes, Option, Result, Ok, Err}
use Rattle.std.specs.Prelude.{if◌then◌else◌}
use Rattle.std.specs.Option.{option_map_or}
use Rattle.lattice.specs.Cofactors.{is_empty}
use Rattle.lattice.specs.Family.{Family, IsFamily, includes}
use Rattle.pla_reader.specs.Grammar.{first_failed}
use Rattle.pla_reader.specs.Lines.{lines_of}
use Rattle.pla_reader.specs.Reading.{Description}
use Rattle.pla_reader.specs.declared.refusal.LineRefusal.{LineRefusal}
use Rattle.pla_reader.specs.declared.refusal.LineRefusal.TheVariants as line_refusals
use Rattle.pla_reader.specs.declared.refusal.TextRefusal.{TextRefusal}
use Rattle.pla_reader.specs.declared.refusal.TextRefusal.TheVariants.{Bad, Memory}
use Rattle.pla_reader.specs.PrintedNames.{printed_names}
use Rattle.cert_check.specs.Reading.{are_known, are_ordered, bare, is_line, left_of, monomials_of, place_of, right_of, terms_in, words}
use Rattle.cert_check.specs.declared.refusal.AnswerWhy.{AnswerWhy}
use Rattle.nf_run.specs.declared.queries.Query.{Query}
use Rattle.nf_run.specs.declared.queries.QueryWhy.{QueryWhy}
use Rattle.nf_run.specs.declared.queries.QueryWhy.TheVariants.{BadLine, UnknownName, TermOrder}

-- ---- a line

-- what is wrong with a line of these words: its form; the name of the output; that of a factor; the order of factors or terms
unfoldable pub query_fault : (ins outs : List (List ℕ)) → (line : List (List ℕ)) → Option QueryWhy
query_fault ins outs line = first_failed (
    (not (is_line line), BadLine)
    ∷ (not (includes outs (left_of line)), UnknownName)
    ∷ (not (are_known ins (terms_in (right_of line))), UnknownName)
    ∷ (not (are_ordered ins (2 ^ length ins) (terms_in (right_of line))), TermOrder) ∷ [])

-- what it asks
unfoldable pub query_of : (ins outs : List (List ℕ)) → (line : List (List ℕ)) → Query
query_of ins outs line = record { output = place_of outs (left_of line) + 1; terms = monomials_of ins (right_of line) }

-- ---- the whole

-- queries, or the number of the first bad line and the first check that it fails
abbrev pub Reading : Type 0
Reading = Result (List Query) (ℕ × QueryWhy)

-- what the lines add to what was read, after so many other lines
unfoldable pub queries_on : (ins outs : List (List ℕ)) → (count : ℕ) → List Query → List (List ℕ) → Reading
queries_on ins outs count read [] = Ok read
queries_on ins outs count read (line ∷ lines) =
    if is_empty (bare line) then queries_on ins outs (count + 1) read lines
    else option_map_or (λ why. Err (count + 1, why)) (query_fault ins outs (words (bare line)))
    (queries_on ins outs (count + 1) (read ++ query_of ins outs (words (bare line)) ∷ []) lines)

-- what the text asks of a description, or why it is refused
abbrev pub query_reading : Description → List ℕ → Reading
query_reading d text =
    queries_on (printed_names (codes "x") d.inputs d.in_names) (printed_names (codes "f") d.outputs d.out_names) 0 [] (lines_of text)

-- the result gives what was read, unless memory ran out
abbrev pub GivesQueries : Result (List Query) (TextRefusal QueryWhy) → Reading → Type 0
GivesQueries (Ok queries) reading = reading ≡ Ok queries
GivesQueries (Err (Bad line why)) reading = reading ≡ Err (line, why)
GivesQueries (Err Memory) reading = Unit {0}

-- ---- what is answered

-- the polynomial of a query
abbrev pub asked : Query → Family
asked q = reverse q.terms

-- one over so many inputs, for one of so many outputs
pub record IsQueryOver (inputs outputs : ℕ) (q : Query) : Type 0 where
  pub first : 1 ≤ q.output
  pub last : q.output ≤ outputs
  pub polynomial : IsFamily inputs (asked q)

abbrev pub query_why_name : QueryWhy → List ℕ
query_why_name BadLine = codes "BadLine"
query_why_name UnknownName = codes "UnknownName"
query_why_name TermOrder = codes "TermOrder"

-- the refusal of a line of known names whose terms were not read
abbrev pub order_refusal : LineRefusal AnswerWhy → LineRefusal QueryWhy
order_refusal (line_refusals.Bad why) = line_refusals.Bad TermOrder
order_refusal line_refusals.Memory = line_refusals.Memory
