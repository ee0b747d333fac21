use Rattle.gate_build.proofs.GateValues.{IsFamily-polynomial_of, polynomial_has_values}
use Rattle.gate_build.proofs.laws.polynomial_has_values.Goals as goal

pub returns : goal.returns
returns c = λ circuit literal is. (IsFamily-polynomial_of circuit literal, polynomial_has_values circuit literal is)
