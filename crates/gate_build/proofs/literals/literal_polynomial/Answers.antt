use Rattle.std.proofs.Common.{◌/◌, Ok, subst, sym}
use Rattle.node_store.specs.Stores.{Builds, IsPlanned}
use Rattle.node_store.proofs.StoreLaws.{Builds-known, Knows-denotes}
use Rattle.gate_build.specs.Built.{handle_of}
use Rattle.gate_build.proofs.StepCalls.{literal_even, literal_odd}
use Rattle.gate_build.proofs.literals.literal_polynomial.Goals as goal

pub returns-then-literal-eq0-clause-result : goal.returns-then-literal-eq0-clause-result
returns-then-literal-eq0-clause-result g c =
    let s = g.S.Store.state c.args.store.now in let h = handle_of c.args.handles.now (c.args.literal / 2) in
    subst (Builds s s (Ok h)) (sym (literal_even s c.args.handles.now c.args.literal c.if-literal-eq0.true))
    (Builds-known s h _ (g.met.S.Store.sound c.args.store.now) (Knows-denotes s h c.requires.known.known))

pub xor-requires-clause-planned : goal.xor-requires-clause-planned
xor-requires-clause-planned g c =
    let s = g.S.Store.state c.args.store.now in
    subst (IsPlanned s) (literal_odd s c.args.handles.now c.args.literal (g.met.S.Store.sound c.args.store.now) c.if-literal-eq0.false)
    c.requires.planned

pub returns-clause-result : goal.returns-clause-result
returns-clause-result g c =
    let s = g.S.Store.state c.args.store.now in
    subst (Builds s (g.S.Store.state c.xor.new.store) c.xor.result)
    (sym (literal_odd s c.args.handles.now c.args.literal (g.met.S.Store.sound c.args.store.now) c.if-literal-eq0.false))
    c.xor.ensures.result
