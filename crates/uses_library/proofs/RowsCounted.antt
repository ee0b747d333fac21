-- What is due for a count of rows.
use Rattle.std.proofs.Common.{◌∙◌, arith, inl, refl, sym}
use Rattle.std.specs.Prelude.{Result}
use Rattle.pla_reader.specs.Reading.{Description}
use Rattle.pla_reader.specs.declared.refusal.Refusal.{Refusal}
use Rattle.program.specs.Duties.{IsLawful, IsOwed}
use Rattle.uses_library.specs.RowCount.{count_due, count_duty}

owed_of : (r : Result Description Refusal) → IsOwed count_duty (count_due r)
owed_of r = grind arith

pub is_lawful : IsLawful count_duty
is_lawful = record {
  apart = λ words job refused asked. refused asked;
  one_job = λ words a b x y. refl;
  one_due = λ job bytes a b x y. x ∙ sym y;
  owed = λ job bytes due is. rw is (owed_of _);
  own = λ end. inl refl;
}
