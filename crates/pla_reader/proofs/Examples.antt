-- Worked descriptions, by computation.
use Rattle.std.proofs.Common.{◌≡◌, ℕ, List, [], ◌∷◌, ◌++◌, Ok, Err, refl}
use Rattle.std.specs.Prelude.{codes}
use Rattle.lattice.specs.declared.kind.Kind.TheVariants.{Fd, Fr}
use Rattle.pla_reader.specs.declared.refusal.Why.TheVariants.{RowLength, NoSize, NamesEarly, TypeLate}
use Rattle.pla_reader.specs.Lines.{content, words_of}
use Rattle.pla_reader.specs.Grammar.{kind_named, arguments_of, symbols, size_fault, kind_fault, names_fault, row_fault, command_fault}
use Rattle.pla_reader.specs.Grammar.{fault_of}
use Rattle.pla_reader.specs.Reading.{input_mask, output_mask, row_of, rows_of, up_to_end, first_fault, description_of, reading_of}
use Rattle.pla_reader.specs.Reading.{bytes_taken}

-- a text and a line feed
abbrev line : List ℕ → List ℕ
line text = text ++ 10 ∷ []

-- a comment, a carriage return, a skipped command and two rows
two_rows : reading_of
    (line (codes ".i 2 # two") ++ codes ".o 1" ++ 13 ∷ 10 ∷ [] ++ line (codes ".skipped") ++ line (codes "1- 1") ++ line (codes "01|4"))
    ≡ Ok (record {
      inputs = 2;
      outputs = 1;
      kind = Fd;
      rows = record { line = 4; care = 2; value = 2; on = 1; off = 0; dc = 0 } ∷ record
          { line = 5; care = 3; value = 1; on = 1; off = 0; dc = 0 } ∷ [];
      in_names = [];
      out_names = [];
    })
unfolding reading_of first_fault fault_of description_of up_to_end content words_of kind_named arguments_of symbols size_fault
    kind_fault names_fault row_fault command_fault rows_of row_of input_mask output_mask
two_rows = refl

-- names after a row, a type, and what follows the end
with_names : reading_of
    (line (codes ".type fr") ++ line (codes ".o 02") ++ line (codes ".i 1") ++ line (codes "0 10") ++ line (codes ".ob f g") ++ line
    (codes "  .e x") ++ line (codes "1")) ≡ Ok (record {
      inputs = 1;
      outputs = 2;
      kind = Fr;
      rows = record { line = 4; care = 1; value = 0; on = 1; off = 2; dc = 0 } ∷ [];
      in_names = [];
      out_names = codes "f" ∷ codes "g" ∷ [];
    })
unfolding reading_of first_fault fault_of description_of up_to_end content words_of kind_named arguments_of symbols size_fault
    kind_fault names_fault row_fault command_fault rows_of row_of input_mask output_mask
with_names = refl

taken : (bytes_taken (line (codes ".e") ++ line (codes "1")) ≡ 3) × (bytes_taken (line (codes ".i 1") ++ codes ".o 2") ≡ 9)
unfolding bytes_taken up_to_end content words_of
taken = (refl, refl)

-- no line, too few symbols, names before the sizes, and a type after a row
refusals : (reading_of [] ≡ Err (record { line = 0; why = NoSize }))
    × (reading_of (line (codes ".i 2") ++ line (codes ".o 1") ++ line (codes "10 1") ++ codes "0") ≡ Err
    (record { line = 4; why = RowLength }))
    × (reading_of (line (codes ".i 2") ++ line (codes ".ilb a b") ++ line (codes ".o 1")) ≡ Err (record { line = 2; why = NamesEarly }))
    × (reading_of (line (codes ".i 2") ++ line (codes ".o 1") ++ line (codes "10 1") ++ line (codes ".type fd")) ≡ Err
    (record { line = 4; why = TypeLate }))
unfolding reading_of first_fault fault_of description_of up_to_end content words_of kind_named arguments_of symbols size_fault
    kind_fault names_fault row_fault command_fault rows_of row_of input_mask output_mask
refusals = (refl, refl, refl, refl)
