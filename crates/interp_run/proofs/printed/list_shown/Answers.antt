use Rattle.std.proofs.Common.{◌∙◌, Err, ap, arith, drop, get_or, length, map, take}
use Rattle.std.proofs.lemmas.List.Sums.{sum_by-drop_more}
use Rattle.node_store.specs.Stores.{no_handle}
use Rattle.node_store.proofs.StoreLaws.{All_known-later, Grows-knows, Grows-trans, Reads-trans}
use Rattle.lattice.proofs.Polynomials.{same_error}
use Rattle.interp_run.specs.Phases.{answer_in, second_terms, terms_of}
use Rattle.interp_run.proofs.GroupedElements.{next_output, no_more_outputs}
use Rattle.interp_run.proofs.Written.{KnowsOutput-at, shown_more, solved_so_far}
use Rattle.interp_run.proofs.printed.list_shown.Goals as goal

pub terms_of-requires : goal.terms_of-requires
terms_of-requires g c =
    let turn = next_output c.args.leads.now c.args.polynomials.now c.args.elements.now c.loop-index.rest.now c.loop-index.index
    c.loop-index.invariant.rest c.index-leads-index.result no_handle c.loop-index-test.true (omega (arith, c.requires.polynomials))
    c.index-leads-index.is in
    Grows-knows (g.S.Store.state c.args.store.now) _ (get_or c.args.polynomials.now c.loop-index.index no_handle)
    c.loop-index.invariant.reads.grows
    (KnowsOutput-at (g.S.Store.state c.args.store.now) _ _ _ turn.0 turn.1 c.requires.known).0

pub returns-in_err-terms_of-clause-terms : goal.returns-in_err-terms_of-clause-terms
returns-in_err-terms_of-clause-terms g c is =
    let turn = next_output c.args.leads.now c.args.polynomials.now c.args.elements.now c.loop-index.rest.now c.loop-index.index
    c.loop-index.invariant.rest c.index-leads-index.result no_handle c.loop-index-test.true (omega (arith, c.requires.polynomials))
    c.index-leads-index.is in
    let to_t = c.loop-index.invariant.reads.grows in
    let over = same_error c.from_residual.result c.in_err-terms_of.field-0.0 _ c.from_residual.ensures.1 is in
    let more = solved_so_far _ _ _ _ turn.0 turn.1 c.requires.known _ _ to_t to_t in
    omega (arith, more, c.loop-index.invariant.left, c.in_err-terms_of.ensures.over (ap Err over))

pub lists_of-requires : goal.lists_of-requires
lists_of-requires g c =
    let turn = next_output c.args.leads.now c.args.polynomials.now c.args.elements.now c.loop-index.rest.now c.loop-index.index
    c.loop-index.invariant.rest c.index-leads-index.result no_handle c.loop-index-test.true (omega (arith, c.requires.polynomials))
    c.index-leads-index.is in
    let basis = c.split_at.ensures.front ∙ ap (λ k. take k c.loop-index.rest.now) c.len.ensures in
    rw basis (All_known-later (g.S.Store.state c.args.store.now) _ (take (length c.index-leads-index.result) c.loop-index.rest.now)
    (Grows-trans _ _ _ c.loop-index.invariant.reads.grows c.terms_of.ensures.reads.grows)
    (KnowsOutput-at (g.S.Store.state c.args.store.now) _ _ _ turn.0 turn.1 c.requires.known).1)

pub returns-in_err-lists_of-clause-terms : goal.returns-in_err-lists_of-clause-terms
returns-in_err-lists_of-clause-terms g c is =
    let turn = next_output c.args.leads.now c.args.polynomials.now c.args.elements.now c.loop-index.rest.now c.loop-index.index
    c.loop-index.invariant.rest c.index-leads-index.result no_handle c.loop-index-test.true (omega (arith, c.requires.polynomials))
    c.index-leads-index.is in
    let basis = c.split_at.ensures.front ∙ ap (λ k. take k c.loop-index.rest.now) c.len.ensures in
    let to_t = c.loop-index.invariant.reads.grows in
    let to_u = Grows-trans _ _ _ to_t c.terms_of.ensures.reads.grows in
    let over = same_error c.from_residual-in_err-lists_of.result c.in_err-lists_of.field-0.0 _
    c.from_residual-in_err-lists_of.ensures.1 is in
    let more = solved_so_far _ _ _ _ turn.0 turn.1 c.requires.known _ _ to_t to_u in
    let listed = ap (terms_of (g.S.Store.state c.terms_of.new.store)) basis in
    let rest = c.in_err-lists_of.ensures.over (ap Err over) in
    omega (arith, more, c.loop-index.invariant.left, c.in_ok-terms_of.ensures.left, listed, rest)

pub loop-index-preserved : goal.loop-index-preserved
loop-index-preserved g c =
    let turn = next_output c.args.leads.now c.args.polynomials.now c.args.elements.now c.loop-index.rest.now c.loop-index.index
    c.loop-index.invariant.rest c.index-leads-index.result no_handle c.loop-index-test.true (omega (arith, c.requires.polynomials))
    c.index-leads-index.is in
    let basis = c.split_at.ensures.front ∙ ap (λ k. take k c.loop-index.rest.now) c.len.ensures in
    let lists = c.args.leads.now in let i = c.loop-index.index in let l = c.index-leads-index.result in
    let to_t = c.loop-index.invariant.reads.grows in
    let to_u = Grows-trans _ _ _ to_t c.terms_of.ensures.reads.grows in
    let more = solved_so_far _ _ _ _ turn.0 turn.1 c.requires.known _ _ to_t to_u in
    let listed = ap (terms_of (g.S.Store.state c.terms_of.new.store)) basis in
    let others = c.split_at.ensures.back ∙ ap (λ k. drop k c.loop-index.rest.now) c.len.ensures in
    record {
      reads = Reads-trans _ _ _ c.loop-index.invariant.reads (Reads-trans _ _ _ c.terms_of.ensures.reads c.lists_of.ensures.reads);
      shown = shown_more _ _ _ _ turn.0 turn.1 c.requires.known _ _ c.loop-index.shown.items c.push.new.self.items _ to_t to_u
          c.loop-index.invariant.shown c.in_ok-terms_of.ensures.terms (rw basis at c.in_ok-lists_of.ensures.lists)
          c.in_ok-push.ensures.items;
      left = omega (arith, more, c.loop-index.invariant.left, c.in_ok-terms_of.ensures.left, c.in_ok-lists_of.ensures.left, listed);
      long = omega (arith, sum_by-drop_more length lists i l (omega arith), ap length c.index-leads-index.is);
      rest = rw others turn.2;
    }

pub returns-clause-shown : goal.returns-clause-shown
returns-clause-shown g c =
    let all = no_more_outputs c.args.leads.now c.args.polynomials.now c.args.elements.now c.loop-index.rest.now c.loop-index.index
    c.loop-index.invariant.rest (omega (arith, c.loop-index-test.false)) in
    c.loop-index.invariant.shown ∙ ap (map (answer_in (g.S.Store.state c.args.store.now))) all

pub returns-clause-within : goal.returns-clause-within
returns-clause-within g c =
    let all = no_more_outputs c.args.leads.now c.args.polynomials.now c.args.elements.now c.loop-index.rest.now c.loop-index.index
    c.loop-index.invariant.rest (omega (arith, c.loop-index-test.false)) in
    omega (arith, c.loop-index.invariant.left, ap (second_terms (g.S.Store.state c.args.store.now)) all)
