use Rattle.std.proofs.Common.{arith, refl}
use Rattle.lattice.proofs.Diagrams.{shifted_one, slots_most}
use Rattle.probe_core.proofs.Probing.{probed, not_probed, walked_on}
use Rattle.probe_core.proofs.path.has_probed.Goals as goal

pub returns-then-here-at : goal.returns-then-here-at
returns-then-here-at c = (
  λ _. probed c.args.bits c.args.met.now c.args.at c.args.word c.loop-steps.steps c.loop-steps.invariant _ c.probe_place-here.ensures.place
      (grind (arith, shifted_one c.args.bits c.requires.1)) c.if-here-at.true,
  λ _. refl,
)

pub has_passed-requires : goal.has_passed-requires
has_passed-requires c = grind (arith, slots_most)

pub returns-then-not-has_passed : goal.returns-then-not-has_passed
returns-then-not-has_passed c =
    grind (arith, not_probed c.args.bits c.args.met.now c.args.at c.args.word _ c.loop-steps.invariant _ c.probe_place-here.ensures.place)

pub loop-steps-preserved : goal.loop-steps-preserved
loop-steps-preserved c = walked_on c.args.bits c.args.met.now c.args.at c.args.word c.loop-steps.steps c.loop-steps.invariant _
    c.probe_place-here.ensures.place c.if-here-at.false (c.has_passed.ensures.0 c.if-not-has_passed.false)
