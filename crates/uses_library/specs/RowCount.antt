-- What is due in the program that counts the rows of a description.
use Rattle.std.specs.Prelude.{◌≡◌, ◌++◌, [], true, ℕ, List, Result, Ok, Err, codes, decimal, length}
use Rattle.pla_reader.specs.Reading.{Description, reading_of}
use Rattle.pla_reader.specs.declared.refusal.Refusal.{Refusal}
use Rattle.program.specs.Duties.{Due, Duty, done, silent}
use Rattle.pla_reader.specs.declared.reading.TheConstants.{MOST_BYTES}
use Rattle.program.specs.declared.outcome.NoEnd.{NoEnd}
use Rattle.program.specs.declared.outcome.Outcome.TheVariants as ends

-- the text
abbrev pub count_text : Description → List ℕ
count_text d = codes "rows " ++ decimal (length d.rows) ++ codes "\n"

-- what is due for what was read
abbrev pub count_due : Result Description Refusal → Due NoEnd
count_due (Ok d) = done (count_text d)
count_due (Err refusal) = silent (ends.Text refusal.line refusal.why)

-- the words are the program's name alone
abbrev pub IsName : List (List ℕ) → Type 0
IsName words = length words ≡ 1

abbrev pub count_duty : Duty (Unit {0}) NoEnd
count_duty = record {
  name = codes "rows";
  usage = codes "usage: rows";
  way = λ end. record { status = 1; message = [] };
  limit = MOST_BYTES;
  IsAsked = λ words job. IsName words;
  IsRefused = λ words. ¬ IsName words;
  WordsTakeMemory = ⊥;
  reads = λ job. true;
  IsDue = λ job bytes due. due ≡ count_due (reading_of bytes);
}
