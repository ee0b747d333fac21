use Rattle.std.proofs.Common.{refl}
use Rattle.lattice.specs.Words.{exactly_one}
use Rattle.set_algebra.proofs.Calls.{after_combined, call_failed, last_combined}
use Rattle.bool_poly.proofs.OnesLemmas.{product_asked, product_found, sum_asked}
use Rattle.gate_build.proofs.StepCalls.{literal_found, literal_planned, mux_start}
use Rattle.gate_build.proofs.literals.multiplexer.Goals as goal

pub literal_polynomial-requires-clause-planned : goal.literal_polynomial-requires-clause-planned
literal_polynomial-requires-clause-planned g c =
    let hs = c.args.handles.now in let sound = g.met.S.Store.sound c.args.store.now in let choice = c.args.choice in
    let start = mux_start hs sound choice c.requires.planned in
    literal_planned hs sound choice.select c.requires.select start

pub literal_polynomial-requires-2-clause-planned : goal.literal_polynomial-requires-2-clause-planned
literal_polynomial-requires-2-clause-planned g c =
    let hs = c.args.handles.now in let sound = g.met.S.Store.sound c.args.store.now in let choice = c.args.choice in
    let start = mux_start hs sound choice c.requires.planned in
    let k = literal_found hs sound choice.select c.requires.select start c.in_ok-select.ensures.result in
    literal_planned hs sound choice.one c.requires.one k

pub returns-in_err-one-clause-result : goal.returns-in_err-one-clause-result
returns-in_err-one-clause-result g c =
    let hs = c.args.handles.now in let sound = g.met.S.Store.sound c.args.store.now in let choice = c.args.choice in
    let start = mux_start hs sound choice c.requires.planned in
    let k = literal_found hs sound choice.select c.requires.select start c.in_ok-select.ensures.result in
    call_failed k c.from_residual-in_err-one.ensures.0 c.in_err-one.ensures.result

pub literal_polynomial-requires-3-clause-planned : goal.literal_polynomial-requires-3-clause-planned
literal_polynomial-requires-3-clause-planned g c =
    let hs = c.args.handles.now in let sound = g.met.S.Store.sound c.args.store.now in let choice = c.args.choice in
    let start = mux_start hs sound choice c.requires.planned in
    let k = literal_found hs sound choice.select c.requires.select start c.in_ok-select.ensures.result in
    let m = literal_found hs sound choice.one c.requires.one k c.in_ok-one.ensures.result in
    literal_planned hs sound choice.zero c.requires.zero m

pub returns-in_err-zero-clause-result : goal.returns-in_err-zero-clause-result
returns-in_err-zero-clause-result g c =
    let hs = c.args.handles.now in let sound = g.met.S.Store.sound c.args.store.now in let choice = c.args.choice in
    let start = mux_start hs sound choice c.requires.planned in
    let k = literal_found hs sound choice.select c.requires.select start c.in_ok-select.ensures.result in
    let m = literal_found hs sound choice.one c.requires.one k c.in_ok-one.ensures.result in
    call_failed m c.from_residual-in_err-zero.ensures.0 c.in_err-zero.ensures.result

pub xor-requires-clause-planned : goal.xor-requires-clause-planned
xor-requires-clause-planned g c =
    let hs = c.args.handles.now in let sound = g.met.S.Store.sound c.args.store.now in let choice = c.args.choice in
    let start = mux_start hs sound choice c.requires.planned in
    let k = literal_found hs sound choice.select c.requires.select start c.in_ok-select.ensures.result in
    let m = literal_found hs sound choice.one c.requires.one k c.in_ok-one.ensures.result in
    let n = literal_found hs sound choice.zero c.requires.zero m c.in_ok-zero.ensures.result in
    (sum_asked n n.here.1.0 n.here.0).planned

pub returns-in_err-differ-clause-result : goal.returns-in_err-differ-clause-result
returns-in_err-differ-clause-result g c =
    let hs = c.args.handles.now in let sound = g.met.S.Store.sound c.args.store.now in let choice = c.args.choice in
    let start = mux_start hs sound choice c.requires.planned in
    let k = literal_found hs sound choice.select c.requires.select start c.in_ok-select.ensures.result in
    let m = literal_found hs sound choice.one c.requires.one k c.in_ok-one.ensures.result in
    let n = literal_found hs sound choice.zero c.requires.zero m c.in_ok-zero.ensures.result in
    call_failed n c.from_residual-in_err-differ.ensures.0 c.in_err-differ.ensures.result

pub product-requires-clause-planned : goal.product-requires-clause-planned
product-requires-clause-planned g c =
    let hs = c.args.handles.now in let sound = g.met.S.Store.sound c.args.store.now in let choice = c.args.choice in
    let start = mux_start hs sound choice c.requires.planned in
    let k = literal_found hs sound choice.select c.requires.select start c.in_ok-select.ensures.result in
    let m = literal_found hs sound choice.one c.requires.one k c.in_ok-one.ensures.result in
    let n = literal_found hs sound choice.zero c.requires.zero m c.in_ok-zero.ensures.result in
    let p = after_combined exactly_one refl n n.here.1.0 n.here.0 c.in_ok-differ.ensures.result in
    (product_asked _ p p.here.1.1.1.0 p.here.0).1.1

pub returns-in_err-chosen-clause-result : goal.returns-in_err-chosen-clause-result
returns-in_err-chosen-clause-result g c =
    let hs = c.args.handles.now in let sound = g.met.S.Store.sound c.args.store.now in let choice = c.args.choice in
    let start = mux_start hs sound choice c.requires.planned in
    let k = literal_found hs sound choice.select c.requires.select start c.in_ok-select.ensures.result in
    let m = literal_found hs sound choice.one c.requires.one k c.in_ok-one.ensures.result in
    let n = literal_found hs sound choice.zero c.requires.zero m c.in_ok-zero.ensures.result in
    let p = after_combined exactly_one refl n n.here.1.0 n.here.0 c.in_ok-differ.ensures.result in
    call_failed p c.from_residual-in_err-chosen.ensures.0 c.in_err-chosen.ensures.result

pub xor-requires-2-clause-planned : goal.xor-requires-2-clause-planned
xor-requires-2-clause-planned g c =
    let hs = c.args.handles.now in let sound = g.met.S.Store.sound c.args.store.now in let choice = c.args.choice in
    let start = mux_start hs sound choice c.requires.planned in
    let k = literal_found hs sound choice.select c.requires.select start c.in_ok-select.ensures.result in
    let m = literal_found hs sound choice.one c.requires.one k c.in_ok-one.ensures.result in
    let n = literal_found hs sound choice.zero c.requires.zero m c.in_ok-zero.ensures.result in
    let p = after_combined exactly_one refl n n.here.1.0 n.here.0 c.in_ok-differ.ensures.result in
    let q = product_found _ p p.here.1.1.1.0 p.here.0 c.in_ok-chosen.ensures.result in
    (sum_asked q q.here.1.1.0 q.here.0).planned

pub returns-clause-result : goal.returns-clause-result
returns-clause-result g c =
    let hs = c.args.handles.now in let sound = g.met.S.Store.sound c.args.store.now in let choice = c.args.choice in
    let start = mux_start hs sound choice c.requires.planned in
    let k = literal_found hs sound choice.select c.requires.select start c.in_ok-select.ensures.result in
    let m = literal_found hs sound choice.one c.requires.one k c.in_ok-one.ensures.result in
    let n = literal_found hs sound choice.zero c.requires.zero m c.in_ok-zero.ensures.result in
    let p = after_combined exactly_one refl n n.here.1.0 n.here.0 c.in_ok-differ.ensures.result in
    let q = product_found _ p p.here.1.1.1.0 p.here.0 c.in_ok-chosen.ensures.result in
    last_combined exactly_one refl q q.here.1.1.0 q.here.0 c.xor-2.result c.xor-2.ensures.result
