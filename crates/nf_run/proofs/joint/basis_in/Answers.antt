use Rattle.std.proofs.Common.{◌∙◌, Err, ap, map}
use Rattle.node_store.specs.Stores.{family}
use Rattle.nf_run.proofs.Found.{search_listed, search_unlisted, terms_counted}
use Rattle.nf_run.proofs.joint.basis_in.Goals as goal

pub returns-in_err-lists_upto : goal.returns-in_err-lists_upto
returns-in_err-lists_upto g c =
    let t = g.S.Store.state c.second_phase.new.store in let is = c.in_ok-elements.ensures in
    search_unlisted is.grows (g.met.S.Store.sound c.second_phase.new.store) _ _ is.elements.held
    (terms_counted t _ (ap (map (family t)) c.deref.ensures.value ∙ is.elements.are)) c.in_err-lists_upto.field-0.0 _
    c.from_residual-in_err-lists_upto.ensures.1 (λ e. c.in_err-lists_upto.ensures.over (ap Err e))

pub returns : goal.returns
returns g c =
    let t = g.S.Store.state c.second_phase.new.store in let is = c.in_ok-elements.ensures in
    let are = ap (map (family t)) c.deref.ensures.value ∙ is.elements.are in
    search_listed is.grows (g.met.S.Store.sound c.second_phase.new.store) _ _ is.elements.held (terms_counted t _ are)
    (c.in_ok-lists_upto.ensures.lists ∙ are) c.in_ok-lists_upto.ensures.within
