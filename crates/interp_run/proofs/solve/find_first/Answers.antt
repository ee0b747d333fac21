use Rattle.std.proofs.Common.{Err, ap, arith}
use Rattle.lattice.specs.Words.{first_phase}
use Rattle.computed_cache.specs.Cached.{cached_sound, cached_state}
use Rattle.pla_reader.specs.Reading.{description}
use Rattle.node_store.proofs.StoreLaws.{Grows-trans, fits}
use Rattle.set_algebra.proofs.Calls.{walk_was_over}
use Rattle.interp_run.proofs.PhaseLists.{first_later}
use Rattle.interp_run.proofs.SolvedAnswers.{first_counted, first_terms_over}
use Rattle.interp_run.proofs.solve.find_first.Goals as goal

pub list_leads-requires : goal.list_leads-requires
list_leads-requires g c = rw c.deref.ensures.value c.in_ok-first.ensures.found.found

pub returns-in_err-leads-clause-grows : goal.returns-in_err-leads-clause-grows
returns-in_err-leads-clause-grows g c = Grows-trans _ _ _ c.in_ok-first.ensures.grows c.in_err-leads.ensures.reads.grows

pub returns-in_err-leads-clause-terms : goal.returns-in_err-leads-clause-terms
returns-in_err-leads-clause-terms g c is =
    let d = description c.args.pla.now in let job = c.args.job.now in
    let s = cached_state c.run_first_phase.new.store in let first = c.in_ok-first.ensures.found in
    let sound = cached_sound c.run_first_phase.new.store in
    let room = fits s d.inputs (first_phase d.inputs d.outputs d.kind d.rows job.mode) sound first.held in
    let terms = first_counted d job.mode s c.in_ok-first.first.found.items first.found in
    let over = walk_was_over c.from_residual-in_err-leads.result c.in_err-leads.field-0.0
    c.from_residual-in_err-leads.ensures.1 is in
    first_terms_over job d c.requires.consistent (omega (arith, room, c.in_ok-first.ensures.grows.capacity, c.requires.slots))
    (rw (c.deref.ensures.value, terms) at ((c.in_err-leads.ensures.terms (ap Err over)).1))

pub returns-clause-grows : goal.returns-clause-grows
returns-clause-grows g c = Grows-trans _ _ _ c.in_ok-first.ensures.grows c.in_ok-leads.ensures.reads.grows

pub returns-clause-first : goal.returns-clause-first
returns-clause-first g c = first_later (description c.args.pla.now) c.args.job.now.mode _ _ c.in_ok-first.first
    c.in_ok-leads.ensures.reads.grows c.in_ok-first.ensures.found

pub returns-clause-fits : goal.returns-clause-fits
returns-clause-fits g c = λ basis.
    let d = description c.args.pla.now in let job = c.args.job.now in
    let s = cached_state c.run_first_phase.new.store in let first = c.in_ok-first.ensures.found in
    let sound = cached_sound c.run_first_phase.new.store in
    let room = fits s d.inputs (first_phase d.inputs d.outputs d.kind d.rows job.mode) sound first.held in
    let terms = first_counted d job.mode s c.in_ok-first.first.found.items first.found in
    record {
      nodes = omega (arith, room, c.in_ok-first.ensures.grows.capacity, c.requires.slots);
      terms = rw (c.deref.ensures.value, terms) at (c.in_ok-leads.ensures.within basis);
    }
