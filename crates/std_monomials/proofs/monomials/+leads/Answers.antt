use Rattle.std.proofs.Common.{ℕ, ◌-◌, ◌≤◌, ◌&&◌, arith, Ok, refl}
use Rattle.lattice.specs.Words.{needs, operation_list, answer}
use Rattle.lattice.proofs.Polynomials.{leads_list-split}
use Rattle.node_store.specs.Stores.{family}
use Rattle.node_store.proofs.StoreLaws.{filled, kept_given}
use Rattle.set_algebra.proofs.Calls.{call_failed, combined_planned, parts_start}
use Rattle.std_monomials.proofs.Steps.{LeadsCut, leads_told, empty_gives, none_left_gives, leads_operands, leads_kept, low_asked}
use Rattle.std_monomials.proofs.Steps.{high_asked, after_low, after_above, after_meet, leads_node}
use Rattle.std_monomials.proofs.monomials.+leads.Goals as goal
use Rattle.std_monomials.proofs.monomials.+leads.Goals.{After-parts}
use Rattle.std_monomials.proofs.monomials.+leads.Given.{Over}

at_parts : (g : Over) (m : ℕ) (c : After-parts g m) → let s = g.S.Store.state c.args.store.now in
    LeadsCut s (g.S.Store.state c.parts.new.store) c.args.var (s.vars - c.args.var) (family s c.args.monos) c.parts.result.0
    c.parts.result.1
unfolding needs operation_list
at_parts g m c =
    let inside : c.args.var ≤ (g.S.Store.state c.args.store.now).vars = omega (arith, c.if-vars-var.false, c.vars.ensures) in record {
      range = (c.requires.first, inside);
      left = refl;
      closed = c.requires.closed;
      fits = c.requires.after;
      calls = parts_start c.args.monos c.args.var c.requires.known c.look.ensures.reads c.parts.ensures.reads c.parts.ensures.without
          c.parts.ensures.with_var c.requires.planned (leads_list-split _ _ _ c.requires.first inside
          (filled _ c.args.monos (g.met.S.Store.sound c.args.store.now) c.requires.known c.if-monos-eq0.false));
    }

pub returns-then-monos-eq0 : goal.returns-then-monos-eq0
returns-then-monos-eq0 g m c =
    let sound = g.met.S.Store.sound c.args.store.now in
    leads_told _ _ sound c.requires (Ok (record { 0 = 1 })) (empty_gives _ _ sound c.requires c.if-monos-eq0.true)

pub returns-then-vars-var : goal.returns-then-vars-var
returns-then-vars-var g m c =
    let sound = g.met.S.Store.sound c.args.store.now in leads_told _ _ sound c.requires (Ok (record { 0 = 0 }))
    (none_left_gives _ _ sound c.requires c.if-monos-eq0.false (omega (arith, c.if-vars-var.true, c.vars.ensures)))

pub returns-in-Some : goal.returns-in-Some
unfolding answer
returns-in-Some g m c =
    let sound = g.met.S.Store.sound c.args.store.now in leads_told _ _ sound c.requires (Ok c.in-Some.r)
    (kept_given (leads_operands _ _ sound c.requires) c.look.ensures.reads c.in-Some.ensures.result)

pub leads-requires : goal.leads-requires
leads-requires g m c κs within =
    let k = at_parts g m (goal.at.leads-requires g m c).After-parts in let next = low_asked k in (
      omega (arith, k.calls.reads.grows.vars, k.range.1, c.decreases),
      (within, (next.known, (next.first, (next.last, (next.closed, (next.after, next.planned)))))),
    )

pub returns-in_err-lo-clause-gives : goal.returns-in_err-lo-clause-gives
returns-in_err-lo-clause-gives g m c =
    let k = at_parts g m (goal.at.returns-in_err-lo-clause-gives g m c).After-parts in
    call_failed k.calls c.from_residual.ensures.0 c.in_err-lo.ensures.gives

pub leads-requires-2 : goal.leads-requires-2
leads-requires-2 g m c κs within =
    let k = at_parts g m (goal.at.leads-requires-2 g m c).After-parts in let next = high_asked k c.in_ok-lo.ensures.gives in (
      omega (arith, (after_low k c.in_ok-lo.ensures.gives).reads.grows.vars, k.range.1, c.decreases),
      (within, (next.known, (next.first, (next.last, (next.closed, (next.after, next.planned)))))),
    )

pub returns-in_err-above-clause-gives : goal.returns-in_err-above-clause-gives
returns-in_err-above-clause-gives g m c =
    let k = after_low (at_parts g m (goal.at.returns-in_err-above-clause-gives g m c).After-parts) c.in_ok-lo.ensures.gives in
    call_failed k c.from_residual-in_err-above.ensures.0 c.in_err-above.ensures.gives

pub inter-requires-clause-planned : goal.inter-requires-clause-planned
inter-requires-clause-planned g m c =
    let cut = at_parts g m (goal.at.inter-requires-clause-planned g m c).After-parts in
    let k = after_above cut c.in_ok-lo.ensures.gives c.in_ok-above.ensures.gives in
    combined_planned (λ a b. a && b) refl k k.here.0 k.here.1.1.0

pub returns-in_err-hi-clause-gives : goal.returns-in_err-hi-clause-gives
returns-in_err-hi-clause-gives g m c =
    let cut = at_parts g m (goal.at.returns-in_err-hi-clause-gives g m c).After-parts in
    call_failed (after_above cut c.in_ok-lo.ensures.gives c.in_ok-above.ensures.gives)
    c.from_residual-in_err-hi.ensures.0 c.in_err-hi.ensures

pub grow-requires : goal.grow-requires
grow-requires g m c =
    (leads_node (at_parts g m (goal.at.grow-requires g m c).After-parts) c.in_ok-lo.ensures.gives c.in_ok-above.ensures.gives
    c.in_ok-hi.ensures (g.met.S.Store.sound c.inter.new.store)).asked

pub returns-in_err-r-clause-gives : goal.returns-in_err-r-clause-gives
returns-in_err-r-clause-gives g m c =
    let cut = at_parts g m (goal.at.returns-in_err-r-clause-gives g m c).After-parts in
    call_failed (after_meet cut c.in_ok-lo.ensures.gives c.in_ok-above.ensures.gives c.in_ok-hi.ensures)
    c.from_residual-in_err-r.ensures.0 c.in_err-r.ensures

pub keep-requires : goal.keep-requires
unfolding needs operation_list
keep-requires g m c =
    let node = leads_node (at_parts g m (goal.at.keep-requires g m c).After-parts) c.in_ok-lo.ensures.gives c.in_ok-above.ensures.gives
    c.in_ok-hi.ensures (g.met.S.Store.sound c.inter.new.store) in
    leads_kept _ _ (g.met.S.Store.sound c.args.store.now) c.requires (node.given (Ok c.in_ok-r.r) c.in_ok-r.ensures)

pub returns : goal.returns
unfolding needs operation_list
returns g m c =
    let node = leads_node (at_parts g m (goal.at.returns g m c).After-parts) c.in_ok-lo.ensures.gives c.in_ok-above.ensures.gives
    c.in_ok-hi.ensures (g.met.S.Store.sound c.inter.new.store) in
    rw c.keep.ensures (leads_told _ _ (g.met.S.Store.sound c.args.store.now) c.requires (Ok c.in_ok-r.r)
    (node.given (Ok c.in_ok-r.r) c.in_ok-r.ensures))
