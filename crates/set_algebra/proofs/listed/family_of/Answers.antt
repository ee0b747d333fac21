use Rattle.std.proofs.Common.{get_or, take, arith, rules}
use Rattle.std.proofs.lemmas.List.{take_all, take_more}
use Rattle.lattice.proofs.Diagrams.{IsFamily-nil}
use Rattle.lattice.proofs.Polynomials.{family_where_has, listed-next}
use Rattle.node_store.proofs.StoreLaws.{MayHoldAny-later, any_combined, Reads-refl, failed, then_call, Builds-grown, Denotes-family}
use Rattle.set_algebra.proofs.listed.family_of.Goals as goal

pub returns-in_err-next : goal.returns-in_err-next
returns-in_err-next g c = failed c.from_residual.ensures.0 c.loop-m.invariant.reads c.in_err-next.ensures

pub union-requires-clause-planned : goal.union-requires-clause-planned
union-requires-clause-planned g c = grind (arith, any_combined, MayHoldAny-later)

pub returns-in_err-all : goal.returns-in_err-all
returns-in_err-all g c =
    failed c.from_residual-in_err-all.ensures.0 (then_call c.loop-m.invariant.reads c.in_ok-next.ensures) c.in_err-all.ensures

pub returns : goal.returns
returns g c = grind (arith, take_all, Builds-grown)

pub loop-m-init : goal.loop-m-init
loop-m-init g c = search (rules, arith, Reads-refl, family_where_has, IsFamily-nil)

pub loop-m-preserved : goal.loop-m-preserved
loop-m-preserved g c =
    let now = c.loop-m.invariant in let t = g.S.Store.state c.one.new.store in let xs = c.args.numbers.now in let i = c.loop-m.m-index in
    let any = MayHoldAny-later c.args.vars _ t c.one.ensures.grows now.any in
    let before = Denotes-family t c.loop-m.all _ (c.one.ensures.grows.known c.loop-m.all.0 _ now.members) in
    let one = Denotes-family t c.in_ok-next.next _ c.in_ok-next.ensures.ok in
    record {
      any = MayHoldAny-later c.args.vars t _ c.union.ensures.grows any;
      reads = then_call (then_call now.reads c.in_ok-next.ensures) c.in_ok-all.ensures;
      members =
          let next = take_more xs i 0 c.loop-m-test.true in
          cc (c.in_ok-all.ensures.ok, any.vars_are, next, listed-next c.args.vars (take i xs) (get_or xs i 0));
    }
