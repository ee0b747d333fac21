use Rattle.aig_inputs.proofs.Points.{points_are_arranged}
use Rattle.aig_inputs.proofs.laws.points_are_arranged.Goals as goal

pub returns : goal.returns
returns c = points_are_arranged
