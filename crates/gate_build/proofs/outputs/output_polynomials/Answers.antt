use Rattle.std.proofs.Common.{◌∙◌, ap, arith, length}
use Rattle.lattice.proofs.Diagrams.{covers_append, covers_left, covers_right}
use Rattle.node_store.proofs.StoreLaws.{Grows-trans}
use Rattle.aig_reader.specs.Reading.{circuit}
use Rattle.gate_build.specs.Steps.{circuit_list, gates_list}
use Rattle.gate_build.proofs.StepLemmas.{length-steps_of}
use Rattle.gate_build.proofs.outputs.output_polynomials.Goals as goal

pub build_inputs-requires-clause-planned : goal.build_inputs-requires-clause-planned
unfolding circuit_list
build_inputs-requires-clause-planned g c = covers_left c.args.aig.now.inputs _ _ _ c.requires.planned

pub build_gates-requires-clause-planned : goal.build_gates-requires-clause-planned
unfolding circuit_list
build_gates-requires-clause-planned g c =
    let n = c.args.aig.now.inputs in
    rw c.in_ok-build_inputs.ensures.found.grows.plan (covers_left n _ (gates_list (circuit c.args.aig.now)) _ (covers_right n _ _ _
    c.requires.planned))

pub returns-in_err-build_gates-clause-grows : goal.returns-in_err-build_gates-clause-grows
returns-in_err-build_gates-clause-grows g c =
    Grows-trans _ _ _ c.in_ok-build_inputs.ensures.found.grows c.in_err-build_gates.ensures.found.grows

pub build_outputs-requires-clause-variables : goal.build_outputs-requires-clause-variables
build_outputs-requires-clause-variables g c =
    let long = ap length c.requires.steps ∙ length-steps_of (circuit c.args.aig.now) in omega arith

pub build_outputs-requires-clause-planned : goal.build_outputs-requires-clause-planned
unfolding circuit_list
build_outputs-requires-clause-planned g c =
    let n = c.args.aig.now.inputs in
    rw (c.in_ok-build_gates.ensures.found.grows.plan, c.in_ok-build_inputs.ensures.found.grows.plan)
    (covers_right n _ (gates_list (circuit c.args.aig.now)) _ (covers_right n _ _ _ c.requires.planned))

pub returns-in_err-build_outputs-clause-grows : goal.returns-in_err-build_outputs-clause-grows
returns-in_err-build_outputs-clause-grows g c =
    Grows-trans _ _ _ c.in_ok-build_inputs.ensures.found.grows (Grows-trans _ _ _ c.in_ok-build_gates.ensures.found.grows
    c.in_err-build_outputs.ensures.found.grows)

pub returns-clause-grows : goal.returns-clause-grows
returns-clause-grows g c =
    Grows-trans _ _ _ c.in_ok-build_inputs.ensures.found.grows (Grows-trans _ _ _ c.in_ok-build_gates.ensures.found.grows
    c.in_ok-build_outputs.ensures.found.grows)

pub returns-clause-held : goal.returns-clause-held
unfolding circuit_list
returns-clause-held g c =
    let n = c.args.aig.now.inputs in let last = c.in_ok-build_outputs.ensures.found in let gates = c.in_ok-build_gates.ensures.found in
    covers_append n _ _ _ (λ f i. last.grows.held f (gates.grows.held f (c.in_ok-build_inputs.ensures.found.held f i)))
    (covers_append n _ _ _ (λ f i. last.grows.held f (gates.held f i)) last.held)
