use Rattle.std.proofs.Common.{◌∙◌, Err, ap, length, reverse}
use Rattle.std.proofs.lemmas.List.{reverse-reverse}
use Rattle.node_store.proofs.StoreLaws.{Denotes-family, Grows-trans}
use Rattle.nf_run.proofs.Found.{search_listed, search_unlisted}
use Rattle.nf_run.proofs.joint.leads_in.Goals as goal

pub returns-in_err-walk_upto-clause-grows : goal.returns-in_err-walk_upto-clause-grows
returns-in_err-walk_upto-clause-grows g c = Grows-trans _ _ _ c.in_ok-found.ensures.grows c.in_err-walk_upto.ensures.reads.grows

pub returns-in_err-walk_upto-clause-leads : goal.returns-in_err-walk_upto-clause-leads
returns-in_err-walk_upto-clause-leads g c =
    let t = g.S.Store.state c.first_phase.new.store in let is = c.in_ok-found.ensures in
    search_unlisted is.grows (g.met.S.Store.sound c.first_phase.new.store) _ _ is.found.held
    (ap length (Denotes-family t c.in_ok-found.found.leads _ is.found.leads)) c.in_err-walk_upto.field-0.0 _
    c.from_residual-in_err-walk_upto.ensures.1 (λ e. c.in_err-walk_upto.ensures.over (ap Err e))

pub returns-clause-grows : goal.returns-clause-grows
returns-clause-grows g c = Grows-trans _ _ _ c.in_ok-found.ensures.grows c.in_ok-walk_upto.ensures.reads.grows

pub returns-clause-leads : goal.returns-clause-leads
returns-clause-leads g c =
    let t = g.S.Store.state c.first_phase.new.store in let is = c.in_ok-found.ensures in
    let leads_are = Denotes-family t c.in_ok-found.found.leads _ is.found.leads in
    search_listed is.grows (g.met.S.Store.sound c.first_phase.new.store) _ _ is.found.held (ap length leads_are)
    (ap reverse c.in_ok-walk_upto.ensures.members ∙ (reverse-reverse _ ∙ leads_are)) c.in_ok-walk_upto.ensures.within
