use Rattle.std.proofs.Common.{◌≡◌, ◌+◌, ◌-◌, ◌<◌, ◌∙◌, arith, ap, append-nil, get_or, length, sym}
use Rattle.std.specs.Prelude.{replicate}
use Rattle.std.proofs.lemmas.Option.{slice_get-get_or}
use Rattle.aig_reader.specs.Reading.{circuit}
use Rattle.gate_build.specs.declared.steps.Step.TheVariants.{Skip}
use Rattle.gate_build.specs.Steps.{steps_of}
use Rattle.gate_build.proofs.StepLemmas.{all_at, all_steps, kept_marks, kept_steps, length-all, no_gate, none_needed, skipped_marks}
use Rattle.gate_build.proofs.StepLemmas.{skipped_steps, step_below}
use Rattle.gate_build.proofs.steps.keep_needed.Goals as goal

pub loop-k-init : goal.loop-k-init
loop-k-init c =
    let c1 = circuit c.args.aig.now in
    let none = none_needed (c.args.aig.now.inputs + 1 + length c.args.aig.now.gates) c.args.aig.now.outputs (all_steps c1)
    (length c.args.aig.now.gates) (omega (arith, length-all c1)) in
    rw (c.as_slice-gates.ensures, none) (record {
      steps = c.requires.steps ∙ sym (append-nil (replicate (length c.args.aig.now.gates) Skip));
      variables = c.requires.variables;
      marked = c.requires.marked;
    })

pub mark_step-requires : goal.mark_step-requires
mark_step-requires c =
    let c1 = circuit c.args.aig.now in let i = c.loop-k.invariant in let k = c.loop-k.k - 1 in
    let gates = c.as_slice-gates.ensures in
    let within : k < length c.args.aig.now.gates = omega (arith, ap length gates) in
    let below = step_below c1 c.args.aig.now.fits k (get_or c.args.aig.now.gates k no_gate)
    (slice_get-get_or c.args.aig.now.gates k no_gate within) in
    let here = rw (← (rw gates at c.step_of-step.ensures)) at below in
    λ j d in'. omega (arith, here j d in', i.variables)

pub loop-k-preserved-then-needed-first : goal.loop-k-preserved-then-needed-first
loop-k-preserved-then-needed-first c =
    let c1 = circuit c.args.aig.now in let i = c.loop-k.invariant in let k = c.loop-k.k - 1 in
    let one : c.loop-k.k ≡ k + 1 = omega arith in
    let gates = c.as_slice-gates.ensures in
    let within : k < length c.args.aig.now.gates = omega (arith, ap length gates) in
    let less : k < length (all_steps c1) = omega (arith, length-all c1) in
    let step : get_or (all_steps c1) k Skip ≡ c.step_of-step.result =
    all_at c1 k within ∙ sym (rw gates at c.step_of-step.ensures) in
    let v = c.args.aig.now.inputs + 1 in let outputs = c.args.aig.now.outputs in
    let marked = rw one at i.marked in let named = sym (marked (v + k)) ∙ c.if-needed-first.true in record {
      steps = rw (← step) (kept_steps v outputs (all_steps c1) k less c.loop-k.steps (rw one at i.steps) named);
      variables = omega (arith, i.variables, c.mark_step.auto.needed);
      marked = kept_marks v outputs (all_steps c1) k less c.loop-k.needed c.mark_step.new.needed marked named
          (rw (← step) at c.mark_step.ensures);
    }

pub loop-k-preserved : goal.loop-k-preserved
loop-k-preserved c =
    let c1 = circuit c.args.aig.now in let i = c.loop-k.invariant in let k = c.loop-k.k - 1 in
    let one : c.loop-k.k ≡ k + 1 = omega arith in
    let gates = c.as_slice-gates.ensures in
    let within : k < length c.args.aig.now.gates = omega (arith, ap length gates) in
    let less : k < length (all_steps c1) = omega (arith, length-all c1) in
    let v = c.args.aig.now.inputs + 1 in let outputs = c.args.aig.now.outputs in
    let marked = rw one at i.marked in let named = sym (marked (v + k)) ∙ c.if-needed-first.false in record {
      steps = skipped_steps v outputs (all_steps c1) k less c.loop-k.steps (rw one at i.steps) named;
      variables = i.variables;
      marked = skipped_marks v outputs (all_steps c1) k less c.loop-k.needed marked named;
    }

pub returns : goal.returns
unfolding steps_of
returns c =
    let none : c.loop-k.k ≡ 0 = omega arith in let first : c.args.aig.now.inputs + 1 + 0 ≡ c.args.aig.now.inputs + 1 = omega arith in
    rw first at (rw none at c.loop-k.invariant.steps)
