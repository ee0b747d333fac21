use Rattle.std.proofs.Common.{refl}
use Rattle.lattice.specs.Words.{exactly_one}
use Rattle.set_algebra.proofs.Calls.{call_failed, last_combined}
use Rattle.bool_poly.proofs.OnesLemmas.{sum_asked}
use Rattle.gate_build.proofs.StepCalls.{literal_found, literal_planned, xor_start}
use Rattle.gate_build.proofs.literals.exclusive_or.Goals as goal

pub literal_polynomial-requires-clause-planned : goal.literal_polynomial-requires-clause-planned
literal_polynomial-requires-clause-planned g c =
    let hs = c.args.handles.now in let sound = g.met.S.Store.sound c.args.store.now in
    literal_planned hs sound c.args.pair.left c.requires.left (xor_start hs sound c.args.pair c.requires.planned)

pub literal_polynomial-requires-2-clause-planned : goal.literal_polynomial-requires-2-clause-planned
literal_polynomial-requires-2-clause-planned g c =
    let hs = c.args.handles.now in let sound = g.met.S.Store.sound c.args.store.now in
    let k = literal_found hs sound c.args.pair.left c.requires.left (xor_start hs sound c.args.pair c.requires.planned)
    c.in_ok-left.ensures.result in
    literal_planned hs sound c.args.pair.right c.requires.right k

pub returns-in_err-right-clause-result : goal.returns-in_err-right-clause-result
returns-in_err-right-clause-result g c =
    let hs = c.args.handles.now in let sound = g.met.S.Store.sound c.args.store.now in
    let k = literal_found hs sound c.args.pair.left c.requires.left (xor_start hs sound c.args.pair c.requires.planned)
    c.in_ok-left.ensures.result in
    call_failed k c.from_residual-in_err-right.ensures.0 c.in_err-right.ensures.result

pub xor-requires-clause-planned : goal.xor-requires-clause-planned
xor-requires-clause-planned g c =
    let hs = c.args.handles.now in let sound = g.met.S.Store.sound c.args.store.now in
    let k = literal_found hs sound c.args.pair.left c.requires.left (xor_start hs sound c.args.pair c.requires.planned)
    c.in_ok-left.ensures.result in
    let both = literal_found hs sound c.args.pair.right c.requires.right k c.in_ok-right.ensures.result in
    (sum_asked both both.here.1.0 both.here.0).planned

pub returns-clause-result : goal.returns-clause-result
returns-clause-result g c =
    let hs = c.args.handles.now in let sound = g.met.S.Store.sound c.args.store.now in
    let k = literal_found hs sound c.args.pair.left c.requires.left (xor_start hs sound c.args.pair c.requires.planned)
    c.in_ok-left.ensures.result in
    let both = literal_found hs sound c.args.pair.right c.requires.right k c.in_ok-right.ensures.result in
    last_combined exactly_one refl both both.here.1.0 both.here.0 c.xor.result c.xor.ensures.result
