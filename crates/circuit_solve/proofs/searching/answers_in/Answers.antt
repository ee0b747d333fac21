use Rattle.std.proofs.Common.{◌∙◌, Err, ap, map, sym}
use Rattle.node_store.specs.Stores.{family}
use Rattle.circuit_solve.proofs.Found.{search_listed, search_unlisted, terms_by}
use Rattle.circuit_solve.proofs.searching.answers_in.Goals as goal

pub answers-requires-clause-planned : goal.answers-requires-clause-planned
answers-requires-clause-planned g c = rw c.requires.plan (λ f i. i)

pub lists_upto-requires : goal.lists_upto-requires
lists_upto-requires g c = rw c.deref.ensures.value c.in_ok-found.ensures.found.known

pub returns-in_err-lists_upto : goal.returns-in_err-lists_upto
returns-in_err-lists_upto g c =
    let t = g.S.Store.state c.answers.new.store in let is = c.in_ok-found.ensures in
    search_unlisted is.grows (g.met.S.Store.sound c.answers.new.store) _ _ is.found.held
    (terms_by t _ (sym (ap (map (family t)) c.deref.ensures.value ∙ is.found.are))) c.in_err-lists_upto.field-0.0 _
    c.from_residual-in_err-lists_upto.ensures.1 (λ e. c.in_err-lists_upto.ensures.over (ap Err e))

pub returns : goal.returns
returns g c =
    let t = g.S.Store.state c.answers.new.store in let is = c.in_ok-found.ensures in
    let are = ap (map (family t)) c.deref.ensures.value ∙ is.found.are in
    search_listed is.grows (g.met.S.Store.sound c.answers.new.store) _ _ is.found.held (terms_by t _ (sym are))
    (c.in_ok-lists_upto.ensures.lists ∙ are) c.in_ok-lists_upto.ensures.within
