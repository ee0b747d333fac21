use Rattle.std.proofs.Common.{◌<◌, ◌∙◌, arith, ap, length, get_or}
use Rattle.node_store.proofs.StoreLaws.{found_start}
use Rattle.aig_reader.specs.Reading.{circuit}
use Rattle.gate_build.proofs.BuiltLemmas.{built_later, finds_err, literal_is, literal_known, output_planned, outputs_denote, outputs_found}
use Rattle.gate_build.proofs.StepLemmas.{outputs_find}
use Rattle.gate_build.proofs.outputs.build_outputs.Goals as goal

pub loop-j-init : goal.loop-j-init
loop-j-init g c = record { ready = c.requires.ready; found = found_start (g.S.Store.state c.args.store.now); polynomials = tt }

pub literal_polynomial-requires-clause-known : goal.literal_polynomial-requires-clause-known
literal_polynomial-requires-clause-known g c =
    let c1 = circuit c.args.aig.now in let s = g.S.Store.state c.args.store.now in let t = g.S.Store.state c.loop-j.store in
    let i = c.loop-j.invariant in
    let less : c.loop-j.j < length c.args.aig.now.outputs = rw c.as_slice-literal-items.ensures at c.loop-j-test.true in
    let here = ap (λ xs. get_or xs c.loop-j.j 0) c.as_slice-literal-items.ensures in
    let found = rw (← here) at (outputs_find c1 c.args.aig.now.fits c.loop-j.j 0 less) in
    let built = built_later c1 s t c.args.handles.now i.found.reads.grows c.requires.built in
    literal_known c1 t _ c.args.handles.now built (omega arith) _ (rw (← c.requires.variables) at found)

pub literal_polynomial-requires-clause-planned : goal.literal_polynomial-requires-clause-planned
literal_polynomial-requires-clause-planned g c =
    let c1 = circuit c.args.aig.now in let s = g.S.Store.state c.args.store.now in let t = g.S.Store.state c.loop-j.store in
    let i = c.loop-j.invariant in
    let less : c.loop-j.j < length c.args.aig.now.outputs = rw c.as_slice-literal-items.ensures at c.loop-j-test.true in
    let here = ap (λ xs. get_or xs c.loop-j.j 0) c.as_slice-literal-items.ensures in
    let found = rw (← here) at (outputs_find c1 c.args.aig.now.fits c.loop-j.j 0 less) in
    let built = built_later c1 s t c.args.handles.now i.found.reads.grows c.requires.built in
    let same = literal_is c1 t _ c.args.handles.now built (i.found.reads.grows.vars
    ∙ c.requires.vars) _ (rw (← c.requires.variables) at found) in
    output_planned c1 s t c.loop-j.j c.args.handles.now c.requires.vars i.found.reads.grows less _ here same c.requires.planned

pub returns-in_err-outputs-clause-found : goal.returns-in_err-outputs-clause-found
returns-in_err-outputs-clause-found g c = finds_err c.from_residual.ensures.0 c.loop-j.invariant.found.reads c.in_err-outputs.ensures.result

pub loop-j-preserved : goal.loop-j-preserved
loop-j-preserved g c =
    let c1 = circuit c.args.aig.now in let s = g.S.Store.state c.args.store.now in let t = g.S.Store.state c.loop-j.store in
    let i = c.loop-j.invariant in
    let less : c.loop-j.j < length c.args.aig.now.outputs = rw c.as_slice-literal-items.ensures at c.loop-j-test.true in
    let here = ap (λ xs. get_or xs c.loop-j.j 0) c.as_slice-literal-items.ensures in
    let found = rw (← here) at (outputs_find c1 c.args.aig.now.fits c.loop-j.j 0 less) in
    let built = built_later c1 s t c.args.handles.now i.found.reads.grows c.requires.built in
    let same = literal_is c1 t _ c.args.handles.now built (i.found.reads.grows.vars
    ∙ c.requires.vars) _ (rw (← c.requires.variables) at found) in
    record {
      ready = c.in_ok-outputs.ensures.ready;
      found = outputs_found c1 s t c.loop-j.j c.args.handles.now c.requires.vars i.found.reads.grows less _ here same
          c.in_ok-outputs.ensures.result i.found;
      polynomials = outputs_denote c1 s t c.loop-j.j c.args.handles.now c.requires.vars i.found.reads.grows less _ here same
          c.in_ok-outputs.ensures.result c.loop-j.outputs (omega (arith, c.requires.room, c.loop-j.auto.outputs)) i.polynomials;
    }
