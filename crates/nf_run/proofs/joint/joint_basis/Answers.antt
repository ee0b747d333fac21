use Rattle.std.proofs.Common.{rules}
use Rattle.std.proofs.Math.Pow.{pow_mono}
use Rattle.pla_reader.specs.Reading.{description}
use Rattle.nf_run.proofs.JointSteps.{refused_with_more, within_more}
use Rattle.nf_run.proofs.joint.joint_basis.Goals as goal

pub returns-in_default : goal.returns-in_default
returns-in_default c = record {
  basis = tt;
  within = tt;
  refused = λ other basis is. refused_with_more c.loop-tried.tried c.args.bits c.args.limit (pow_mono c.loop-tried.invariant.1)
      (description c.args.p.now) c.args.joining _ (search rules) basis (c.in_default.ensures.refused other (search rules) basis is);
}

pub returns-in_default-2-clause-within : goal.returns-in_default-2-clause-within
returns-in_default-2-clause-within c =
    within_more c.loop-tried.tried c.args.bits c.args.limit (pow_mono c.loop-tried.invariant.1) (description c.args.p.now)
    c.args.joining c.joint_basis_at_once.result c.joint_basis_at_once.ensures.within
