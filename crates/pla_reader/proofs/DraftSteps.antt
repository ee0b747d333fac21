-- What is said with one more line, and that it fits a description.
use Rattle.std.proofs.Common.{◌≡◌, ℕ, ◌+◌, ◌<◌, ◌≤◌, Bool, true, false, ◌||◌, cond, List, [], ◌∷◌, ◌++◌, length, map, get_or, drop, take}
use Rattle.std.proofs.Common.{codes, All, Option, Some, None, refl, ap, ◌∙◌, arith, filter}
use Rattle.std.specs.Prelude.{IfSome, unwrap_or}
use Rattle.std.specs.Option.{is_some, option_map, option_zip, option_or}
use Rattle.std.specs.List.{list_all, list_any, find, enumerate_from}
use Rattle.std.specs.Str.{bytes_eq}
use Rattle.std.specs.List.Sorted.{IsStrictlyIncreasing}
use Rattle.std.proofs.lemmas.Bool.{ne_eqb}
use Rattle.std.proofs.lemmas.Bool.Decides.{nat_tests}
use Rattle.std.proofs.lemmas.Grind.{common_steps}
use Rattle.std.proofs.lemmas.Slice.Eq.{bytes_eq-Decides}
use Rattle.std.proofs.Math.Bool.{or-false}
use Rattle.std.proofs.lemmas.List.{length_push, map_push, nil_from_length, map-append, length-map, append-nil}
use Rattle.std.proofs.lemmas.List.Folds.{find-append}
use Rattle.std.proofs.lemmas.List.Elements.{All-nil, All-push, All-map, All-weaker, filter-append}
use Rattle.lattice.specs.declared.kind.Kind.{Kind}
use Rattle.lattice.specs.declared.kind.Kind.TheVariants.{Fd}
use Rattle.lattice.specs.declared.row.Row.{Row}
use Rattle.pla_reader.specs.declared.refusal.Why.{Why}
use Rattle.pla_reader.specs.declared.refusal.Why.TheVariants.{Unsupported}
use Rattle.pla_reader.specs.Description.{FitsSizes}
use Rattle.pla_reader.specs.Lines.{is_printable, words_of}
use Rattle.pla_reader.specs.Grammar.{begins_command, arguments_of, number_in, kind_in, is_row, is_end, entry_for, is_unsupported}
use Rattle.pla_reader.specs.Grammar.{sizes_given, symbols, size_fault, kind_fault, names_fault, row_fault, command_fault, fault_of}
use Rattle.pla_reader.specs.Reading.{row_of, rows_of}
use Rattle.pla_reader.specs.Draft.{Said, LinesSay, WereGiven, FitTogether, WereRead, IsCommandLine}
use Rattle.pla_reader.proofs.Fitting.{row_fits}
use Rattle.lattice.proofs.Polynomials.{ascend_push, enumerate_from-append, is_some_given, map_or, or_none, value_given}
use Rattle.pla_reader.specs.Parts.{BeginsWithWord}
use Rattle.lattice.specs.declared.limits.TheConstants.{MAX_VARS}

-- ---- what a line without a fault tells

size_told : (inputs : Option ℕ) (most : ℕ) (arguments : List (List ℕ)) (size : ℕ) → size_fault (is_some inputs) most arguments ≡ None
    → number_in arguments ≡ Some size → (inputs ≡ None) × ((1 ≤ size) × (size ≤ most))
unfolding size_fault
size_told inputs most arguments size fine number = grind (arith, nat_tests)

kind_told : (kind : Option Kind) (rows : List Row) (arguments : List (List ℕ)) → kind_fault (is_some kind) (length rows) arguments ≡ None
    → (kind ≡ None) × (rows ≡ [])
unfolding kind_fault
kind_told kind [] arguments fine = grind (arith, nat_tests)
kind_told kind (row ∷ rows) arguments fine = grind (arith, nat_tests)

in_names_told : (names : Option (List (List ℕ))) (inputs outputs : Option ℕ) (arguments : List (List ℕ))
    → names_fault (is_some names) (option_map (λ s. s.0) (option_zip inputs outputs)) arguments ≡ None
    → (names ≡ None) × (inputs ≡ Some (length arguments))
unfolding names_fault
in_names_told names inputs outputs arguments fine = grind (arith, nat_tests)

out_names_told : (names : Option (List (List ℕ))) (inputs outputs : Option ℕ) (arguments : List (List ℕ))
    → names_fault (is_some names) (option_map (λ s. s.1) (option_zip inputs outputs)) arguments ≡ None
    → (names ≡ None) × (outputs ≡ Some (length arguments))
unfolding names_fault
out_names_told names inputs outputs arguments fine = grind (arith, nat_tests)

row_told : (inputs outputs : Option ℕ) (rows : ℕ) (line : List ℕ) → row_fault (option_zip inputs outputs) rows line ≡ None
    → (option_zip inputs outputs ≡ Some (unwrap_or inputs 0, unwrap_or outputs 0))
    × ((rows < 8192) × (length (symbols line) ≡ unwrap_or inputs 0 + unwrap_or outputs 0))
unfolding row_fault
row_told inputs outputs rows line e = grind (arith, nat_tests)

no_command : (word command : List ℕ) → begins_command word ≡ false → begins_command command ≡ true → bytes_eq word command ≡ false
no_command word command other begins = grind (arith, bytes_eq-Decides word command)

-- no names are there while a size is missing
no_names : (names : Option (List (List ℕ))) (size other : Option ℕ) → size ≡ None
    → IfSome names (λ ns. size ≡ Some (length ns)) → IfSome names (λ ns. other ≡ Some (length ns))
no_names names size other none h = grind arith

-- ---- what lines gave, with one more line at their end

abbrev begins : (command : List ℕ) → (words : List (List ℕ)) → Bool
begins command words = list_any (λ word. bytes_eq word command) (take 1 words)

pushed : (command : List ℕ) (lines : List (List ℕ)) (line : List ℕ) → arguments_of command (lines ++ line ∷ [])
    ≡ option_or (arguments_of command lines) (option_map (drop 1) (find (begins command) (words_of line ∷ [])))
unfolding arguments_of
pushed command lines line = simp (map-append, find-append, map_or)

counted : (n : ℕ) (lines : List (List ℕ)) → length (filter (λ p. is_row p.1) (enumerate_from n lines)) ≡ length (filter is_row lines)
counted n [] = refl
counted n (line ∷ lines) = grind (arith, counted (n + 1) lines)

length-rows_of : (inputs : ℕ) (kind : Kind) (lines : List (List ℕ)) → length (rows_of inputs kind lines) ≡ length (filter is_row lines)
unfolding rows_of
length-rows_of inputs kind lines = simp (length-map, counted)

rows_pushed : (inputs : ℕ) (kind : Kind) (lines : List (List ℕ)) (line : List ℕ) → rows_of inputs kind (lines ++ line ∷ [])
    ≡ cond (is_row line) (rows_of inputs kind lines ++ row_of inputs kind (length lines + 1) line ∷ []) (rows_of inputs kind lines)
unfolding rows_of
rows_pushed inputs kind lines line = grind (arith, enumerate_from-append, filter-append, map-append, append-nil)

-- ---- one more line

module _ (s : Said) (earlier : List (List ℕ)) (read : WereRead s earlier) where
  abbrev given : WereGiven s earlier
  given = read.given

  pub sizes_are : sizes_given earlier ≡ option_zip s.inputs s.outputs
  sizes_are = grind (arith, value_given)

  rows_count : length (filter is_row earlier) ≡ length s.rows
  rows_count = grind (arith, length-rows_of (unwrap_or s.inputs 0) (unwrap_or s.kind Fd) earlier)

  -- the fault of a command, by what the lines said
  abbrev said_fault : (word : List ℕ) (arguments : List (List ℕ)) → Option Why
  said_fault word arguments = entry_for (cond (is_unsupported word) (Some Unsupported) None) (
      (codes ".i", size_fault (is_some s.inputs) MAX_VARS arguments)
      ∷ (codes ".o", size_fault (is_some s.outputs) 64 arguments)
      ∷ (codes ".type", kind_fault (is_some s.kind) (length s.rows) arguments)
      ∷ (codes ".ilb", names_fault (is_some s.in_names) (option_map (λ s. s.0) (option_zip s.inputs s.outputs)) arguments)
      ∷ (codes ".ob", names_fault (is_some s.out_names) (option_map (λ s. s.1) (option_zip s.inputs s.outputs)) arguments) ∷ []) word

  module _ (line : List ℕ) where
    abbrev lines : List (List ℕ)
    lines = earlier ++ line ∷ []

    -- the line has no fault and does not end the description, and with it the lines say this
    abbrev pub GoesOn : Said → Type 0
    GoesOn new = (fault_of earlier line ≡ None) × (false ≡ is_end line) × WereRead new lines

    fit_later : FitTogether s (length lines)
    fit_later = grind (arith, common_steps)

    -- the rows, with a line that is none
    same_rows : is_row line ≡ false → rows_of (unwrap_or s.inputs 0) (unwrap_or s.kind Fd) lines ≡ s.rows
    same_rows other = grind (arith, rows_pushed)

    no_rows : (inputs outputs : ℕ) (kind : Kind) → s.rows ≡ [] → is_row line ≡ false
        → (rows_of inputs kind lines ≡ s.rows) × All (FitsSizes inputs outputs kind) s.rows
    no_rows inputs outputs kind none other =
        let count = length-rows_of inputs kind earlier ∙ rows_count ∙ ap length none in
        let nothing : rows_of inputs kind earlier ≡ [] = nil_from_length _ count in
        rw none (rw (rows_pushed, other) nothing, All-nil (FitsSizes inputs outputs kind))

    still : LinesSay lines s → is_row line ≡ false → WereRead s lines
    still say other = let rows = same_rows other in assumption (fit_later, given.none_before)

    -- a line without words
    pub adds_blank : list_all is_printable line ≡ true → words_of line ≡ [] → GoesOn s
    unfolding fault_of
    adds_blank plain blank = (rw (plain, blank) refl, rw blank refl, still (simp (pushed, blank, or_none) given.commands) (rw blank refl))

    -- a row
    module _ (word rest : List ℕ) (plain : list_all is_printable line ≡ true) (cut : BeginsWithWord line word rest)
        (other : get_or word 0 0 ≡ 46 → ⊥) where
      begins_row : begins_command word ≡ false
      begins_row = ne_eqb (get_or word 0 0) 46 other

      pub row_fault_is : fault_of earlier line ≡ row_fault (option_zip s.inputs s.outputs) (length s.rows) line
      unfolding fault_of
      row_fault_is = rw (plain, cut.words, begins_row, sizes_are, rows_count) refl

      read_row : (row : Row) → row_fault (option_zip s.inputs s.outputs) (length s.rows) line ≡ None
          → IfSome (option_zip s.inputs s.outputs) (λ sizes. row ≡ row_of sizes.0 (unwrap_or s.kind Fd) (length earlier + 1) line)
          → WereRead (record s { rows = s.rows ++ row ∷ [] }) lines
      unfolding row_of
      read_row row fine made =
          let inputs = unwrap_or s.inputs 0 in let outputs = unwrap_or s.outputs 0 in let kind = unwrap_or s.kind Fd in
          let told = row_told s.inputs s.outputs (length s.rows) line fine in
          let e : row ≡ row_of inputs kind (length earlier + 1) line = rw told.0 at made in
          let say : LinesSay lines s = simp (pushed, cut.words, no_command, begins_row, or_none) given.commands in
          let number : row.line ≡ length earlier + 1 = ap (λ (r : Row). r.line) e in let long = length_push earlier line in
          let below : All (λ r. r.line < row.line) s.rows = All-weaker (λ r. r.line ≤ length earlier) (λ r. r.line < row.line)
          (λ r le. omega arith) s.rows read.fit.lines_before in
          let few : length (s.rows ++ row ∷ []) ≤ 8192 = omega (arith, length_push s.rows row) in
          let ascend : IsStrictlyIncreasing (map (λ r. r.line) (s.rows ++ row ∷ [])) = rw (map_push (λ (r : Row). r.line) s.rows row)
          (ascend_push (map (λ (r : Row). r.line) s.rows) row.line read.fit.lines_ascend
          (All-map (λ y. y < row.line) (λ (r : Row). r.line) s.rows below)) in
          let rows_are : rows_of inputs kind lines ≡ s.rows ++ row ∷ [] = grind (arith, rows_pushed) in
          let row_fit : FitsSizes inputs outputs kind row = rw e (row_fits inputs outputs kind (length earlier + 1) line told.1.1) in
          let rows_fit = All-push (FitsSizes inputs outputs kind) s.rows row read.fit.rows_fit row_fit in
          let none_before : option_zip s.inputs s.outputs ≡ None → s.rows ++ row ∷ [] ≡ [] = λ none. absurd (let t = told.0 in cc) in
          let before = All-push (λ r. r.line ≤ length lines) s.rows row fit_later.lines_before (omega arith) in
          assumption (say, fit_later)

      pub adds_row : (row : Row) → row_fault (option_zip s.inputs s.outputs) (length s.rows) line ≡ None
          → IfSome (option_zip s.inputs s.outputs) (λ sizes. row ≡ row_of sizes.0 (unwrap_or s.kind Fd) (length earlier + 1) line)
          → GoesOn (record s { rows = s.rows ++ row ∷ [] })
      adds_row row fine made = (row_fault_is ∙ fine, simp (cut.words, no_command, begins_row), read_row row fine made)

    -- a command
    module _ (word : List ℕ) (arguments : List (List ℕ)) (is : IsCommandLine line word arguments) where
      no_row : is_row line ≡ false
      no_row = rw (is.words, is.begins) refl

      pub ends_on : is_end line ≡ (bytes_eq word (codes ".e") || bytes_eq word (codes ".end"))
      ends_on = rw is.words (or-false (bytes_eq word (codes ".e") || bytes_eq word (codes ".end")))

      pub said_fault_is : fault_of earlier line ≡ said_fault word arguments
      unfolding fault_of command_fault
      said_fault_is =
          let i = is_some_given number_in _ s.inputs given.commands.inputs_are in
          let o = is_some_given number_in _ s.outputs given.commands.outputs_are in
          let t = is_some_given kind_in _ s.kind given.commands.kind_is in
          simp (is.plain, is.words, is.begins, sizes_are, rows_count, given.commands.in_names_are, given.commands.out_names_are, i, o, t)

      -- one that says nothing of these
      pub read_other : bytes_eq word (codes ".i") ≡ false → bytes_eq word (codes ".o") ≡ false → bytes_eq word (codes ".type") ≡ false
          → bytes_eq word (codes ".ilb") ≡ false → bytes_eq word (codes ".ob") ≡ false → WereRead s lines
      read_other i o t a b = still (simp (pushed, is.words, i, o, t, a, b, or_none) given.commands) no_row

      -- one of this word
      adds : {new : Said} (asked : List ℕ) → bytes_eq word asked ≡ true
          → (bytes_eq asked (codes ".e") || bytes_eq asked (codes ".end")) ≡ false → said_fault asked arguments ≡ None
          → (IsCommandLine line asked arguments → WereRead new lines) → GoesOn new
      adds asked same goes_on fine reads =
          let e = (bytes_eq-Decides word asked).0 same in let fault = rw e at said_fault_is in
          (fault ∙ fine, rw (ends_on, e, goes_on) refl, reads (rw e at is))

      pub adds_inputs : bytes_eq word (codes ".i") ≡ true → (size : ℕ) → size_fault (is_some s.inputs) MAX_VARS arguments ≡ None
          → number_in arguments ≡ Some size → GoesOn (record s { inputs = Some size })
      adds_inputs same size fine number = adds (codes ".i") same refl fine (λ is.
          let told = size_told s.inputs MAX_VARS arguments size fine number in
          let empty : s.rows ≡ [] = given.none_before (rw told.0 refl) in
          let before : arguments_of (codes ".i") earlier ≡ None = (let e = given.commands.inputs_are in grind arith) in
          let say : LinesSay lines (record s { inputs = Some size }) =
          simp (pushed, is.words, before, or_none) (assumption (ap Some number)) in
          let kept = no_rows size (unwrap_or s.outputs 0) (unwrap_or s.kind Fd) empty no_row in
          let names = no_names s.in_names s.inputs (Some size) told.0 read.fit.in_count in
          assumption (fit_later, say))

      pub adds_outputs : bytes_eq word (codes ".o") ≡ true → (size : ℕ) → size_fault (is_some s.outputs) 64 arguments ≡ None
          → number_in arguments ≡ Some size → GoesOn (record s { outputs = Some size })
      adds_outputs same size fine number = adds (codes ".o") same refl fine (λ is.
          let told = size_told s.outputs 64 arguments size fine number in
          let empty : s.rows ≡ [] = given.none_before (grind arith) in
          let before : arguments_of (codes ".o") earlier ≡ None = (let e = given.commands.outputs_are in grind arith) in
          let say : LinesSay lines (record s { outputs = Some size }) =
          simp (pushed, is.words, before, or_none) (assumption (ap Some number)) in
          let kept = no_rows (unwrap_or s.inputs 0) size (unwrap_or s.kind Fd) empty no_row in
          let names = no_names s.out_names s.outputs (Some size) told.0 read.fit.out_count in
          assumption (fit_later, say))

      pub adds_type : bytes_eq word (codes ".type") ≡ true → (kind : Kind) → kind_fault (is_some s.kind) (length s.rows) arguments ≡ None
          → kind_in arguments ≡ Some kind → GoesOn (record s { kind = Some kind })
      adds_type same kind fine named = adds (codes ".type") same refl fine (λ is.
          let told = kind_told s.kind s.rows arguments fine in
          let before : arguments_of (codes ".type") earlier ≡ None = (let e = given.commands.kind_is in grind arith) in
          let say : LinesSay lines (record s { kind = Some kind }) =
          simp (pushed, is.words, before, or_none) (assumption (ap Some named)) in
          let kept = no_rows (unwrap_or s.inputs 0) (unwrap_or s.outputs 0) kind told.1 no_row in
          assumption (fit_later, say))

      pub adds_in_names : bytes_eq word (codes ".ilb") ≡ true
          → names_fault (is_some s.in_names) (option_map (λ p. p.0) (option_zip s.inputs s.outputs)) arguments ≡ None
          → GoesOn (record s { in_names = Some arguments })
      adds_in_names same fine = adds (codes ".ilb") same refl fine (λ is.
          let told = in_names_told s.in_names s.inputs s.outputs arguments fine in
          let before = given.commands.in_names_are ∙ told.0 in
          let say : LinesSay lines (record s { in_names = Some arguments }) = simp (pushed, is.words, before, or_none) (assumption) in
          let rows = same_rows no_row in assumption (fit_later, say, given.none_before))

      pub adds_out_names : bytes_eq word (codes ".ob") ≡ true
          → names_fault (is_some s.out_names) (option_map (λ p. p.1) (option_zip s.inputs s.outputs)) arguments ≡ None
          → GoesOn (record s { out_names = Some arguments })
      adds_out_names same fine = adds (codes ".ob") same refl fine (λ is.
          let told = out_names_told s.out_names s.inputs s.outputs arguments fine in
          let before = given.commands.out_names_are ∙ told.0 in
          let say : LinesSay lines (record s { out_names = Some arguments }) = simp (pushed, is.words, before, or_none) (assumption) in
          let rows = same_rows no_row in assumption (fit_later, say, given.none_before))
