use Rattle.aig_reader.proofs.Values.{one_value}
use Rattle.aig_reader.proofs.laws.one_value.Goals as goal

pub returns : goal.returns
returns c = λ circuit point literal x y p q. one_value circuit point p q
