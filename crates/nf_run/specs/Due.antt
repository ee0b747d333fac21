-- What is due for a mode and the bytes of a source, no more than its limit, over stores of 2 ^ bits slots.
use Rattle.std.specs.Prelude.{◌≡◌, ◌≢◌, ℕ, ◌^◌, nat_lt, List, length, map, sum_by, zip, drop, codes, Ok, Err}
use Rattle.std.specs.Prelude.{if◌then◌else◌}
use Rattle.std.specs.List.{AllZip}
use Rattle.std.specs.Option.{option_map_or}
use Rattle.lattice.specs.Family.{Family}
use Rattle.lattice.specs.Rows.{IsConsistent}
use Rattle.pla_reader.specs.PrintedNames.{printed_names}
use Rattle.pla_reader.specs.Reading.{Description, bytes_taken, reading_of}
use Rattle.pla_reader.specs.declared.refusal.Refusal.{Refusal}
use Rattle.cube_sets.specs.Clashes.{IsClash, IsLeastOf}
use Rattle.cube_sets.specs.declared.clash.Clash.{Clash}
use Rattle.anf_printer.specs.Text.{lines_text}
use Rattle.anf_printer.specs.declared.lines.Left.{Left}
use Rattle.anf_printer.specs.declared.lines.Left.TheVariants.{Zero, Output}
use Rattle.program.specs.Duties.{Due, done, silent}
use Rattle.program.specs.declared.outcome.Outcome.{Outcome}
use Rattle.program.specs.declared.outcome.Outcome.TheVariants as ends
use Rattle.set_algebra.specs.declared.refusal.TermsRefusal.{TermsRefusal}
use Rattle.set_algebra.specs.declared.refusal.TermsRefusal.TheVariants as stops
use Rattle.nf_run.specs.Answers.{IsAnswerTo, query_nodes}
use Rattle.nf_run.specs.Joint.{IsJointBasis, first_refused}
use Rattle.nf_run.specs.Queries.{query_reading}
use Rattle.nf_run.specs.declared.answer.TheConstants.{MOST_TERMS}
use Rattle.nf_run.specs.declared.ends.QueryEnd.{QueryEnd}
use Rattle.nf_run.specs.declared.ends.QueryEnd.TheVariants.{QueryText, TwoOutputs}
use Rattle.nf_run.specs.declared.joint.Joining.{Joining}
use Rattle.nf_run.specs.declared.mode.QueryMode.{QueryMode}
use Rattle.nf_run.specs.declared.mode.QueryMode.TheVariants.{Join, Reduce}
use Rattle.nf_run.specs.declared.queries.Query.{Query}
use Rattle.nf_run.specs.declared.queries.QueryWhy.{QueryWhy}

-- ---- the texts

-- lines with the names of the description that are printed
abbrev pub printed_lines : Description → List (Left × Family) → List ℕ
printed_lines d lines = lines_text (printed_names (codes "x") d.inputs d.in_names) (printed_names (codes "f") d.outputs d.out_names) lines

-- of the answers to queries, in order, with the outputs of these on the left
abbrev pub answers_text : Description → List Query → List Family → List ℕ
answers_text d queries answers = printed_lines d (zip (map (λ q. Output q.output) queries) answers)

-- of the elements of a basis
abbrev pub basis_text : Description → List Family → List ℕ
basis_text d basis = printed_lines d (map (λ e. (Zero, e)) basis)

-- ---- how a run ends, and the text that out gains

-- that of a run of nfq
abbrev pub QueryDue : Type 0
QueryDue = Due QueryEnd

-- of one that has these answers to the queries: the first limit that is passed ends it
abbrev pub with_answers : ℕ → Description → List Query → List Family → QueryDue
with_answers bits d queries answers =
    if nat_lt (2 ^ bits) (query_nodes d queries) then silent (ends.Exhausted (2 ^ bits))
    else (if nat_lt MOST_TERMS (sum_by length answers) then silent (ends.Terms MOST_TERMS) else done (answers_text d queries answers))

-- of one whose terms were not given
abbrev pub stopped : ℕ → TermsRefusal → Outcome QueryEnd
stopped bits stops.Full = ends.Exhausted (2 ^ bits)
stopped bits stops.Over = ends.Terms MOST_TERMS
stopped bits stops.Memory = ends.Memory

-- of one that has this basis, the same
abbrev pub with_basis : ℕ → Description → Joining → List Family → QueryDue
with_basis bits d joining basis = option_map_or (λ e. silent (stopped bits e)) (first_refused bits MOST_TERMS d joining basis)
    (done (basis_text d basis))

-- ---- what is due where nothing fails and memory suffices, a constructor for each cause, the first cause first

-- in mode reduce, on a description and the text behind it
pub data IsDueReducing (bits : ℕ) (d : Description) (text : List ℕ) : QueryDue → Type 0 where
  no_queries : (line : ℕ) (why : QueryWhy) → query_reading d text ≡ Err (line, why)
      → IsDueReducing bits d text (silent (ends.Own (QueryText line why)))
  contradiction_in : (queries : List Query) (c : Clash) → query_reading d text ≡ Ok queries
      → IsLeastOf (IsClash d.inputs d.outputs d.rows d.rows) c
      → IsDueReducing bits d text (silent (ends.Contradiction c))
  has_answers : (queries : List Query) (answers : List Family) → query_reading d text ≡ Ok queries
      → IsConsistent d.inputs d.outputs d.rows → AllZip (IsAnswerTo d) queries answers
      → IsDueReducing bits d text (with_answers bits d queries answers)

-- in modes union and meet, on a description
pub data IsDueJoining (bits : ℕ) (d : Description) (joining : Joining) : QueryDue → Type 0 where
  other_outputs : d.outputs ≢ 2 → IsDueJoining bits d joining (silent (ends.Own TwoOutputs))
  contradiction : (c : Clash) → d.outputs ≡ 2 → IsLeastOf (IsClash d.inputs d.outputs d.rows d.rows) c
      → IsDueJoining bits d joining (silent (ends.Contradiction c))
  has_basis : (basis : List Family) → d.outputs ≡ 2 → IsConsistent d.inputs d.outputs d.rows → IsJointBasis d joining basis
      → IsDueJoining bits d joining (with_basis bits d joining basis)

-- for a mode and the bytes
pub data IsDue (mode : QueryMode) (bits : ℕ) (bytes : List ℕ) : QueryDue → Type 0 where
  no_description : (refusal : Refusal) → reading_of bytes ≡ Err refusal
      → IsDue mode bits bytes (silent (ends.Text refusal.line refusal.why))
  reducing : (d : Description) (due : QueryDue) → reading_of bytes ≡ Ok d → mode ≡ Reduce
      → IsDueReducing bits d (drop (bytes_taken bytes) bytes) due
      → IsDue mode bits bytes due
  joining : (d : Description) (how : Joining) (due : QueryDue) → reading_of bytes ≡ Ok d → mode ≡ Join how → IsDueJoining bits d how due
      → IsDue mode bits bytes due
