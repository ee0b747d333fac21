use Rattle.nf_run.proofs.JointBases.{joint_exists}
use Rattle.nf_run.proofs.laws.joint_basis_exists.Goals as goal

pub returns : goal.returns
returns c = joint_exists
