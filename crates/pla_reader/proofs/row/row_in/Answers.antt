use Rattle.std.proofs.Common.{arith, length-drop}
use Rattle.std.proofs.lemmas.Bool.Decides.{nat_tests}
use Rattle.pla_reader.specs.Grammar.{row_fault}
use Rattle.pla_reader.specs.Reading.{row_of}
use Rattle.pla_reader.proofs.row.row_in.Goals as goal

pub returns : goal.returns
unfolding row_fault row_of
returns c =
    let cube = c.in-Some-cube_of.ensures in let marks = c.in-Some-marks_of.ensures in
    grind (arith, nat_tests, length-drop)
