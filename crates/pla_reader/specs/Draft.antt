-- What is kept while lines are read. No public clause has these words.
use Rattle.std.specs.Prelude.{◌≡◌, ℕ, ◌≤◌, Bool, true, List, [], ◌∷◌, ◌++◌, length, map, codes, All, Option, None, Some, IfSome, unwrap_or}
use Rattle.std.specs.Prelude.{Result, Ok, Err}
use Rattle.std.specs.List.{list_all}
use Rattle.std.specs.List.Sorted.{IsStrictlyIncreasing}
use Rattle.std.specs.Option.{option_map, option_zip}
use Rattle.lattice.specs.declared.kind.Kind.{Kind}
use Rattle.lattice.specs.declared.row.Row.{Row}
use Rattle.lattice.specs.declared.kind.Kind.TheVariants.{Fd}
use Rattle.pla_reader.specs.declared.refusal.Why.{Why}
use Rattle.pla_reader.specs.declared.refusal.LineRefusal.{LineRefusal}
use Rattle.pla_reader.specs.declared.draft.Draft.{Draft}
use Rattle.pla_reader.specs.Description.{FitsSizes}
use Rattle.pla_reader.specs.Lines.{is_printable, words_of}
use Rattle.pla_reader.specs.Grammar.{begins_command, number_in, kind_in, arguments_of, is_end, fault_of}
use Rattle.pla_reader.specs.Reading.{rows_of, description_lines, first_fault, bytes_taken}
use Rattle.pla_reader.specs.Parts.{Stops}
use Rattle.lattice.specs.declared.limits.TheConstants.{MAX_VARS}

-- what lines say
pub record Said : Type 0 where
  pub inputs : Option ℕ
  pub outputs : Option ℕ
  pub kind : Option Kind
  pub rows : List Row
  pub in_names : Option (List (List ℕ))
  pub out_names : Option (List (List ℕ))

-- the arguments of the five commands say this
pub record Say (of_i of_o of_type of_ilb of_ob : Option (List (List ℕ))) (s : Said) : Type 0 where
  pub inputs_are : option_map number_in of_i ≡ option_map Some s.inputs
  pub outputs_are : option_map number_in of_o ≡ option_map Some s.outputs
  pub kind_is : option_map kind_in of_type ≡ option_map Some s.kind
  pub in_names_are : of_ilb ≡ s.in_names
  pub out_names_are : of_ob ≡ s.out_names

-- the commands among the lines say this
abbrev pub LinesSay : List (List ℕ) → Said → Type 0
LinesSay lines =
    Say (arguments_of (codes ".i") lines) (arguments_of (codes ".o") lines) (arguments_of (codes ".type") lines)
    (arguments_of (codes ".ilb") lines)
    (arguments_of (codes ".ob") lines)

-- the lines say this
pub record WereGiven (s : Said) (lines : List (List ℕ)) : Type 0 where
  pub commands : LinesSay lines s
  pub rows_are : rows_of (unwrap_or s.inputs 0) (unwrap_or s.kind Fd) lines ≡ s.rows
  pub none_before : option_zip s.inputs s.outputs ≡ None → s.rows ≡ []

-- it fits a description, whose rows stand on so many lines
pub record FitTogether (s : Said) (count : ℕ) : Type 0 where
  pub inputs_fit : IfSome s.inputs (λ n. (1 ≤ n) × (n ≤ MAX_VARS))
  pub outputs_fit : IfSome s.outputs (λ n. (1 ≤ n) × (n ≤ 64))
  pub few_rows : length s.rows ≤ 8192
  pub lines_ascend : IsStrictlyIncreasing (map (λ r. r.line) s.rows)
  pub lines_before : All (λ r. r.line ≤ count) s.rows
  pub rows_fit : All (FitsSizes (unwrap_or s.inputs 0) (unwrap_or s.outputs 0) (unwrap_or s.kind Fd)) s.rows
  pub in_count : IfSome s.in_names (λ names. s.inputs ≡ Some (length names))
  pub out_count : IfSome s.out_names (λ names. s.outputs ≡ Some (length names))

-- it was read from the lines
pub record WereRead (s : Said) (lines : List (List ℕ)) : Type 0 where
  pub given : WereGiven s lines
  pub fit : FitTogether s (length lines)

abbrev pub said : Draft → Said
said d = record { inputs = d.inputs; outputs = d.outputs; kind = d.kind; rows = d.rows; in_names = d.in_names; out_names = d.out_names }

-- the draft has what was read from the lines
abbrev pub IsDraftOf : Draft → List (List ℕ) → Type 0
IsDraftOf draft = WereRead (said draft)

-- the line is a command of this word, with these arguments
pub record IsCommandLine (line word : List ℕ) (arguments : List (List ℕ)) : Type 0 where
  pub plain : list_all is_printable line ≡ true
  pub words : words_of line ≡ word ∷ arguments
  pub begins : begins_command word ≡ true

-- what adding a line gave: whether it is the last one, or its fault
abbrev pub AddsLine : Result Bool (LineRefusal Why) → (new : Draft) → (earlier : List (List ℕ)) → (line : List ℕ) → Type 0
AddsLine (Ok ends) new earlier line = (fault_of earlier line ≡ None) × (ends ≡ is_end line) × IsDraftOf new (earlier ++ line ∷ [])
AddsLine (Err e) new earlier line = Stops e (fault_of earlier line)

-- the lines of the description have no fault, and gave what the draft has; there are so many, of so many bytes
pub record AllRead (bytes : List ℕ) (draft : Draft) (count taken : ℕ) : Type 0 where
  pub fine : first_fault [] (description_lines bytes) ≡ None
  pub agrees : IsDraftOf draft (description_lines bytes)
  pub counted : count ≡ length (description_lines bytes)
  pub all_taken : taken ≡ bytes_taken bytes
  pub within : taken ≤ length bytes
