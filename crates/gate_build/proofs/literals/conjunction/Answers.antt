use Rattle.std.proofs.Common.{[]}
use Rattle.set_algebra.proofs.Calls.{call_failed}
use Rattle.bool_poly.proofs.OnesLemmas.{product_asked}
use Rattle.gate_build.proofs.StepCalls.{and_start, literal_found, literal_planned, product_end}
use Rattle.gate_build.proofs.literals.conjunction.Goals as goal

pub literal_polynomial-requires-clause-planned : goal.literal_polynomial-requires-clause-planned
literal_polynomial-requires-clause-planned g c =
    let hs = c.args.handles.now in let sound = g.met.S.Store.sound c.args.store.now in
    literal_planned hs sound c.args.gate.left c.requires.left (and_start hs sound c.args.gate c.requires.planned)

pub literal_polynomial-requires-2-clause-planned : goal.literal_polynomial-requires-2-clause-planned
literal_polynomial-requires-2-clause-planned g c =
    let hs = c.args.handles.now in let sound = g.met.S.Store.sound c.args.store.now in
    let k = literal_found hs sound c.args.gate.left c.requires.left (and_start hs sound c.args.gate c.requires.planned)
    c.in_ok-left.ensures.result in
    literal_planned hs sound c.args.gate.right c.requires.right k

pub returns-in_err-right-clause-result : goal.returns-in_err-right-clause-result
returns-in_err-right-clause-result g c =
    let hs = c.args.handles.now in let sound = g.met.S.Store.sound c.args.store.now in
    let k = literal_found hs sound c.args.gate.left c.requires.left (and_start hs sound c.args.gate c.requires.planned)
    c.in_ok-left.ensures.result in
    call_failed k c.from_residual-in_err-right.ensures.0 c.in_err-right.ensures.result

pub product-requires-clause-planned : goal.product-requires-clause-planned
product-requires-clause-planned g c =
    let hs = c.args.handles.now in let sound = g.met.S.Store.sound c.args.store.now in
    let k = literal_found hs sound c.args.gate.left c.requires.left (and_start hs sound c.args.gate c.requires.planned)
    c.in_ok-left.ensures.result in
    let both = literal_found hs sound c.args.gate.right c.requires.right k c.in_ok-right.ensures.result in
    (product_asked [] both both.here.1.0 both.here.0).1.1

pub returns-clause-result : goal.returns-clause-result
returns-clause-result g c =
    let hs = c.args.handles.now in let sound = g.met.S.Store.sound c.args.store.now in
    let k = literal_found hs sound c.args.gate.left c.requires.left (and_start hs sound c.args.gate c.requires.planned)
    c.in_ok-left.ensures.result in
    let both = literal_found hs sound c.args.gate.right c.requires.right k c.in_ok-right.ensures.result in
    product_end both both.here.1.0 both.here.0 c.product.result c.product.ensures.result
