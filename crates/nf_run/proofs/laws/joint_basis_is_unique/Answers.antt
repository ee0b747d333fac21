use Rattle.nf_run.proofs.JointBases.{joint_unique}
use Rattle.nf_run.proofs.laws.joint_basis_is_unique.Goals as goal

pub returns : goal.returns
returns c = joint_unique
