use Rattle.std.proofs.Common.{ℕ, ◌-◌, ◌&&◌, ◌||◌, arith, Ok, refl}
use Rattle.lattice.specs.Words.{needs, operation_list, answer}
use Rattle.lattice.specs.declared.op.Op.TheVariants.{Standard}
use Rattle.lattice.proofs.Polynomials.{standard_list-split}
use Rattle.node_store.specs.Stores.{family}
use Rattle.node_store.proofs.StoreLaws.{allowed_all, given_kept, kept_given, known_after, then_reads}
use Rattle.set_algebra.proofs.Levels.{first_after}
use Rattle.set_algebra.proofs.Calls.{call_failed, combined_planned, hand_falls, parts_start}
use Rattle.std_monomials.proofs.Steps.{StandardCut, standard_told, constant_gives, standard_operands, standard_asked, after_union}
use Rattle.std_monomials.proofs.Steps.{after_inter, after_lo, after_hi, standard_node}
use Rattle.std_monomials.proofs.monomials.+standard.Goals as goal
use Rattle.std_monomials.proofs.monomials.+standard.Goals.{After-parts}
use Rattle.std_monomials.proofs.monomials.+standard.Given.{Over}

at_parts : (g : Over) (m : ℕ) (c : After-parts g m) → let s = g.S.Store.state c.args.store.now in
    StandardCut s (g.S.Store.state c.parts.new.store) (s.vars - c.in-Some.var) (family s c.args.points) c.parts.result.0 c.parts.result.1
unfolding needs operation_list
at_parts g m c =
    let fits = known_after _ _ (g.met.S.Store.sound c.args.store.now) c.requires.known in
    let range = c.in-Some.ensures.range in record {
      fits = fits;
      top = c.in-Some.ensures.level;
      less = omega (arith, range.0, range.1);
      calls = parts_start c.args.points c.in-Some.var c.requires.known (then_reads c.first_var.ensures.reads c.look.ensures.reads)
          c.parts.ensures.reads c.parts.ensures.without c.parts.ensures.with_var c.requires.planned
          (standard_list-split _ _ _ fits c.in-Some.ensures.level (omega (arith, range.0, range.1)));
    }

pub returns-in_default : goal.returns-in_default
returns-in_default g m c =
    let sound = g.met.S.Store.sound c.args.store.now in standard_told _ sound c.requires (Ok c.args.points)
    (constant_gives _ sound c.requires c.first_var.ensures.reads (c.in_default.ensures.constant.0 refl))

pub returns-in-Some-look : goal.returns-in-Some-look
unfolding answer
returns-in-Some-look g m c =
    let sound = g.met.S.Store.sound c.args.store.now in let reads = then_reads c.first_var.ensures.reads c.look.ensures.reads in
    standard_told _ sound c.requires (Ok c.in-Some-look.r)
    (kept_given (standard_operands _ sound c.requires) reads c.in-Some-look.ensures.result)

pub parts-requires-clause-after : goal.parts-requires-clause-after
parts-requires-clause-after g m c =
    first_after c.args.points c.in-Some.var (g.met.S.Store.sound c.args.store.now) c.requires.known c.in-Some.ensures.level
    (then_reads c.first_var.ensures.reads c.look.ensures.reads)

pub union-requires-clause-planned : goal.union-requires-clause-planned
union-requires-clause-planned g m c =
    let k = (at_parts g m (goal.at.union-requires-clause-planned g m c).After-parts).calls in
    combined_planned (λ a b. a || b) refl k k.here.0 k.here.1.0

pub returns-in_err-either-clause-gives : goal.returns-in_err-either-clause-gives
returns-in_err-either-clause-gives g m c =
    let k = at_parts g m (goal.at.returns-in_err-either-clause-gives g m c).After-parts in
    call_failed k.calls c.from_residual.ensures.0 c.in_err-either.ensures

pub inter-requires-clause-planned : goal.inter-requires-clause-planned
inter-requires-clause-planned g m c =
    let k = after_union (at_parts g m (goal.at.inter-requires-clause-planned g m c).After-parts) c.in_ok-either.ensures in
    combined_planned (λ a b. a && b) refl k k.here.1.0 k.here.1.1.0

pub returns-in_err-both-clause-gives : goal.returns-in_err-both-clause-gives
returns-in_err-both-clause-gives g m c =
    let k = after_union (at_parts g m (goal.at.returns-in_err-both-clause-gives g m c).After-parts) c.in_ok-either.ensures in
    call_failed k c.from_residual-in_err-both.ensures.0 c.in_err-both.ensures

pub standard-requires : goal.standard-requires
standard-requires g m c κs within =
    let cut = at_parts g m (goal.at.standard-requires g m c).After-parts in
    let k = after_inter cut c.in_ok-either.ensures c.in_ok-both.ensures in let next = standard_asked _ k k.here.1.0 in
    (omega (arith, hand_falls _ k k.here.1.0 cut.top, c.decreases), (within, (next.known, next.planned)))

pub returns-in_err-lo-clause-gives : goal.returns-in_err-lo-clause-gives
returns-in_err-lo-clause-gives g m c =
    let cut = at_parts g m (goal.at.returns-in_err-lo-clause-gives g m c).After-parts in
    call_failed (after_inter cut c.in_ok-either.ensures c.in_ok-both.ensures) c.from_residual-in_err-lo.ensures.0 c.in_err-lo.ensures.gives

pub standard-requires-2 : goal.standard-requires-2
standard-requires-2 g m c κs within =
    let cut = at_parts g m (goal.at.standard-requires-2 g m c).After-parts in
    let k = after_lo cut c.in_ok-either.ensures c.in_ok-both.ensures c.in_ok-lo.ensures.gives in
    let next = standard_asked _ k k.here.1.0 in
    (omega (arith, hand_falls _ k k.here.1.0 cut.top, c.decreases), (within, (next.known, next.planned)))

pub returns-in_err-hi-clause-gives : goal.returns-in_err-hi-clause-gives
returns-in_err-hi-clause-gives g m c =
    let cut = at_parts g m (goal.at.returns-in_err-hi-clause-gives g m c).After-parts in
    call_failed (after_lo cut c.in_ok-either.ensures c.in_ok-both.ensures c.in_ok-lo.ensures.gives)
    c.from_residual-in_err-hi.ensures.0 c.in_err-hi.ensures.gives

pub grow-requires : goal.grow-requires
grow-requires g m c =
    (standard_node (at_parts g m (goal.at.grow-requires g m c).After-parts) c.in_ok-either.ensures c.in_ok-both.ensures
    c.in_ok-lo.ensures.gives c.in_ok-hi.ensures.gives _ (g.met.S.Store.sound c.standard-2.new.store) c.in-Some.ensures.range refl).asked

pub returns-in_err-r-clause-gives : goal.returns-in_err-r-clause-gives
returns-in_err-r-clause-gives g m c =
    let cut = at_parts g m (goal.at.returns-in_err-r-clause-gives g m c).After-parts in
    call_failed (after_hi cut c.in_ok-either.ensures c.in_ok-both.ensures c.in_ok-lo.ensures.gives c.in_ok-hi.ensures.gives)
    c.from_residual-in_err-r.ensures.0 c.in_err-r.ensures

pub keep-requires : goal.keep-requires
unfolding needs operation_list answer
keep-requires g m c =
    let node = standard_node (at_parts g m (goal.at.keep-requires g m c).After-parts) c.in_ok-either.ensures c.in_ok-both.ensures
    c.in_ok-lo.ensures.gives c.in_ok-hi.ensures.gives _ (g.met.S.Store.sound c.standard-2.new.store) c.in-Some.ensures.range refl in
    given_kept (standard_operands _ (g.met.S.Store.sound c.args.store.now) c.requires)
    (allowed_all Standard refl (λ e. cc) (λ e. cc) (λ e. cc)) (node.given (Ok c.in_ok-r.r) c.in_ok-r.ensures)

pub returns : goal.returns
unfolding needs operation_list
returns g m c =
    let node = standard_node (at_parts g m (goal.at.returns g m c).After-parts) c.in_ok-either.ensures c.in_ok-both.ensures
    c.in_ok-lo.ensures.gives c.in_ok-hi.ensures.gives _ (g.met.S.Store.sound c.standard-2.new.store) c.in-Some.ensures.range refl in
    rw c.keep.ensures (standard_told _ (g.met.S.Store.sound c.args.store.now) c.requires (Ok c.in_ok-r.r)
    (node.given (Ok c.in_ok-r.r) c.in_ok-r.ensures))
