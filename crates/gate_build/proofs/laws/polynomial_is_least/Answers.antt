use Rattle.gate_build.proofs.GateValues.{polynomial_is_least}
use Rattle.gate_build.proofs.laws.polynomial_is_least.Goals as goal

pub returns : goal.returns
returns c = λ circuit literal zeros ones is. polynomial_is_least circuit literal is zeros ones
