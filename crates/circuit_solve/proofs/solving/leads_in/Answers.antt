use Rattle.std.proofs.Common.{Err, ap}
use Rattle.node_store.proofs.StoreLaws.{Grows-trans}
use Rattle.aig_reader.specs.Reading.{circuit}
use Rattle.circuit_solve.proofs.Listing.{leads_known, leads_listed, leads_over, leads_unlisted}
use Rattle.circuit_solve.proofs.solving.leads_in.Goals as goal

pub count_terms-requires : goal.count_terms-requires
count_terms-requires g c = rw c.deref.ensures.value c.in_ok-found.ensures.found.known

pub returns-in_default-clause-grows : goal.returns-in_default-clause-grows
returns-in_default-clause-grows g c = Grows-trans _ _ _ c.in_ok-found.ensures.grows c.in_default.ensures.reads.grows

pub returns-in_default-clause-leads : goal.returns-in_default-clause-leads
returns-in_default-clause-leads g c =
    leads_over (circuit c.args.aig.now) c.args.care c.args.limit c.in_ok-found.ensures.grows
    (g.met.S.Store.sound c.first_phase.new.store) c.in_ok-found.found c.in_ok-found.ensures.found _ c.deref.ensures.value
    c.in_default.ensures.over

pub walk_upto-requires : goal.walk_upto-requires
walk_upto-requires g c =
    leads_known (circuit c.args.aig.now) c.args.care c.args.limit c.in_ok-found.ensures.grows
    (g.met.S.Store.sound c.first_phase.new.store) c.in_ok-found.found c.in_ok-found.ensures.found _ c.deref.ensures.value
    c.in-Some.ensures.reads c.in-Some.terms c.in-Some.ensures.count c.in-Some.ensures.within

pub returns-in_err-walk_upto-clause-grows : goal.returns-in_err-walk_upto-clause-grows
returns-in_err-walk_upto-clause-grows g c = Grows-trans _ _ _ c.in_ok-found.ensures.grows
    (Grows-trans _ _ _ c.in-Some.ensures.reads.grows c.in_err-walk_upto.ensures.reads.grows)

pub returns-in_err-walk_upto-clause-leads : goal.returns-in_err-walk_upto-clause-leads
returns-in_err-walk_upto-clause-leads g c =
    leads_unlisted (circuit c.args.aig.now) c.args.care c.args.limit c.in_ok-found.ensures.grows
    (g.met.S.Store.sound c.first_phase.new.store) c.in_ok-found.found c.in_ok-found.ensures.found _ c.deref.ensures.value
    c.in-Some.ensures.reads c.in-Some.terms c.in-Some.ensures.count c.in-Some.ensures.within c.in_err-walk_upto.field-0.0 _
    c.from_residual-in_err-walk_upto.ensures.1 (λ e. c.in_err-walk_upto.ensures.over (ap Err e))

pub returns-clause-grows : goal.returns-clause-grows
returns-clause-grows g c = Grows-trans _ _ _ c.in_ok-found.ensures.grows
    (Grows-trans _ _ _ c.in-Some.ensures.reads.grows c.in_ok-walk_upto.ensures.reads.grows)

pub returns-clause-leads : goal.returns-clause-leads
returns-clause-leads g c =
    leads_listed (circuit c.args.aig.now) c.args.care c.args.limit c.in_ok-found.ensures.grows
    (g.met.S.Store.sound c.first_phase.new.store) c.in_ok-found.found c.in_ok-found.ensures.found _ c.deref.ensures.value
    c.in-Some.ensures.reads c.in-Some.terms c.in-Some.ensures.count c.in-Some.ensures.within
    c.in_ok-walk_upto.ensures.members c.in_ok-walk_upto.ensures.within
