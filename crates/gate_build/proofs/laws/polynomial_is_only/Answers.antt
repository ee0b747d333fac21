use Rattle.gate_build.proofs.GateValues.{polynomial_is_only}
use Rattle.gate_build.proofs.laws.polynomial_is_only.Goals as goal

pub returns : goal.returns
returns c = λ circuit literal p is. polynomial_is_only circuit literal is p
