use Rattle.std.proofs.Common.{arith, length-set}
use Rattle.lattice.specs.Words.{numbers_below}
use Rattle.node_store.specs.declared.store.Handle.{Handle}
use Rattle.node_store.proofs.StoreLaws.{found_start}
use Rattle.aig_reader.specs.Reading.{circuit}
use Rattle.gate_build.proofs.BuiltLemmas.{constant_built, input_below, input_built, input_planned, inputs_found}
use Rattle.gate_build.proofs.outputs.build_inputs.Goals as goal

pub loop-k-init : goal.loop-k-init
unfolding numbers_below
loop-k-init g c = record {
  found = found_start (g.S.Store.state c.args.store.now);
  built = constant_built (circuit c.args.aig.now) (g.S.Store.state c.args.store.now) c.args.handles.now
      (g.met.S.Store.sound c.args.store.now) (omega (arith, c.requires.room));
}

pub one-requires-clause-below : goal.one-requires-clause-below
one-requires-clause-below g c = input_below c.args.aig.now.inputs c.loop-k.k _ c.loop-k-test.true c.args.aig.now.fits.few_inputs
    (omega (arith, c.loop-k.invariant.found.reads.grows.vars, c.requires.vars))

pub one-requires-clause-planned : goal.one-requires-clause-planned
one-requires-clause-planned g c = input_planned (g.S.Store.state c.args.store.now) (g.S.Store.state c.loop-k.store)
    c.args.aig.now.inputs c.loop-k.k
    c.loop-k.invariant.found.reads.grows c.requires.vars c.loop-k-test.true c.args.aig.now.fits.few_inputs c.requires.planned

pub loop-k-preserved : goal.loop-k-preserved
loop-k-preserved g c = record {
  found = inputs_found c.args.aig.now.inputs c.loop-k.k c.loop-k-test.true c.args.aig.now.fits.few_inputs c.loop-k.invariant.found
      c.in_ok-handles.ensures;
  built = input_built (circuit c.args.aig.now) c.loop-k.handles c.in_ok-handles.field-0 c.loop-k.k c.loop-k-test.true
      c.args.aig.now.fits.few_inputs (omega (arith, c.requires.room, c.loop-k.auto.handles, length-set {A = Handle}))
      c.loop-k.invariant.built c.in_ok-handles.ensures;
}
