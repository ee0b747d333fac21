use Rattle.std.proofs.Common.{◌≡◌, ◌+◌, ◌<◌, ◌∙◌, arith, ap, length}
use Rattle.node_store.proofs.StoreLaws.{found_start}
use Rattle.aig_reader.specs.Reading.{circuit}
use Rattle.gate_build.proofs.BuiltLemmas.{finds_err, gate_built, gates_found, step_known, step_planned}
use Rattle.gate_build.proofs.StepLemmas.{length-steps_of}
use Rattle.gate_build.proofs.outputs.build_gates.Goals as goal

pub loop-k-init : goal.loop-k-init
loop-k-init g c = record {
  ready = c.requires.ready;
  found = found_start (g.S.Store.state c.args.store.now);
  built = λ v less. c.requires.built v (omega arith);
}

pub step_polynomial-requires-clause-known : goal.step_polynomial-requires-clause-known
step_polynomial-requires-clause-known g c =
    let c1 = circuit c.args.aig.now in let s = g.S.Store.state c.args.store.now in let t = g.S.Store.state c.loop-k.store in
    let i = c.loop-k.invariant in let long = ap length c.requires.steps ∙ length-steps_of c1 in
    let less : c.loop-k.k < length c.args.aig.now.gates = omega arith in
    let room : length c.loop-k.handles ≡ c.args.aig.now.inputs + 1 + length c.args.aig.now.gates =
    omega (arith, c.requires.room, c.loop-k.auto.handles) in
    rw c.requires.steps (step_known c1 c.args.aig.now.fits s t c.loop-k.k c.loop-k.handles c.requires.vars i.found.reads.grows less
    i.built room)

pub step_polynomial-requires-clause-planned : goal.step_polynomial-requires-clause-planned
step_polynomial-requires-clause-planned g c =
    let c1 = circuit c.args.aig.now in let s = g.S.Store.state c.args.store.now in let t = g.S.Store.state c.loop-k.store in
    let i = c.loop-k.invariant in let long = ap length c.requires.steps ∙ length-steps_of c1 in
    let less : c.loop-k.k < length c.args.aig.now.gates = omega arith in
    let room : length c.loop-k.handles ≡ c.args.aig.now.inputs + 1 + length c.args.aig.now.gates =
    omega (arith, c.requires.room, c.loop-k.auto.handles) in
    rw c.requires.steps (step_planned c1 c.args.aig.now.fits s t c.loop-k.k c.loop-k.handles c.requires.vars i.found.reads.grows less
    i.built room
    c.requires.planned)

pub returns-in_err-handles-clause-found : goal.returns-in_err-handles-clause-found
returns-in_err-handles-clause-found g c = finds_err c.from_residual.ensures.0 c.loop-k.invariant.found.reads c.in_err-handles.ensures.result

pub loop-k-preserved : goal.loop-k-preserved
loop-k-preserved g c =
    let c1 = circuit c.args.aig.now in let s = g.S.Store.state c.args.store.now in let t = g.S.Store.state c.loop-k.store in
    let i = c.loop-k.invariant in let long = ap length c.requires.steps ∙ length-steps_of c1 in
    let less : c.loop-k.k < length c.args.aig.now.gates = omega arith in
    let room : length c.loop-k.handles ≡ c.args.aig.now.inputs + 1 + length c.args.aig.now.gates =
    omega (arith, c.requires.room, c.loop-k.auto.handles) in
    let given = rw c.requires.steps at c.in_ok-handles.ensures.result in record {
      ready = c.in_ok-handles.ensures.ready;
      found = rw c.requires.steps (gates_found c1 c.args.aig.now.fits s t c.loop-k.k c.loop-k.handles c.requires.vars
          i.found.reads.grows less
          i.built room given (rw c.requires.steps at i.found));
      built = gate_built c1 c.args.aig.now.fits s t c.loop-k.k c.loop-k.handles c.requires.vars i.found.reads.grows less i.built room given;
    }
