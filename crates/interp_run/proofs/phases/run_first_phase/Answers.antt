use Rattle.std.proofs.Common.{ap, arith, length, sym, ◌∙◌}
use Rattle.std.proofs.lemmas.Slice.Zip.{AllZip-long}
use Rattle.node_store.proofs.StoreLaws.{Grows-trans}
use Rattle.computed_cache.specs.Cached.{cached_state}
use Rattle.pla_reader.specs.Reading.{description}
use Rattle.interp_run.proofs.OutputLists.{length-output_numbers}
use Rattle.interp_run.proofs.PhaseLists.{are_tasks, first_done, first_parted}
use Rattle.interp_run.proofs.SolvedAnswers.{first_few}
use Rattle.interp_run.proofs.TaskJobs.{covers_few}
use Rattle.interp_run.proofs.phases.run_first_phase.Goals as goal

pub find_cares-requires-clause-planned : goal.find_cares-requires-clause-planned
find_cares-requires-clause-planned g c κs within =
    ((first_parted (description c.args.pla.now) c.args.mode).planned (cached_state c.args.store.now).plan c.requires.planned).0

pub invariant_of-tasks : goal.invariant_of-tasks
invariant_of-tasks g c =
    let d = description c.args.pla.now in let list = c.deref-2.ensures.value ∙ c.in_ok-list.ensures in
    record {
      consistent = c.requires.consistent;
      are_tasks = rw list (are_tasks d c.args.mode);
      many = ap length c.deref.ensures.value ∙ (sym (AllZip-long _ _ _ c.in_ok-cares.ensures.cares.each) ∙ length-output_numbers d.outputs);
      few = rw list (omega (arith, first_few d c.args.mode c.args.pla.now.fits.few_outputs));
    }

pub run_tasks-requires-clause-vars : goal.run_tasks-requires-clause-vars
run_tasks-requires-clause-vars g c κs within = c.in_ok-cares.ensures.grows.vars ∙ c.requires.vars

pub run_tasks-requires-clause-cares : goal.run_tasks-requires-clause-cares
run_tasks-requires-clause-cares g c κs within = rw c.deref.ensures.value c.in_ok-cares.ensures.cares.each

pub run_tasks-requires-clause-planned : goal.run_tasks-requires-clause-planned
run_tasks-requires-clause-planned g c κs within = rw (c.deref-2.ensures.value, c.in_ok-list.ensures, c.in_ok-cares.ensures.grows.plan)
    ((first_parted (description c.args.pla.now) c.args.mode).planned (cached_state c.args.store.now).plan c.requires.planned).1

pub returns-in_err-found-clause-grows : goal.returns-in_err-found-clause-grows
returns-in_err-found-clause-grows g c = Grows-trans _ _ _ c.in_ok-cares.ensures.grows c.in_err-found.ensures.grows

pub returns-clause-grows : goal.returns-clause-grows
returns-clause-grows g c = Grows-trans _ _ _ c.in_ok-cares.ensures.grows c.in_ok-found.ensures.grows

pub returns-clause-found : goal.returns-clause-found
returns-clause-found g c = first_done (description c.args.pla.now) c.args.mode (cached_state c.find_cares.new.store)
    (cached_state c.run_tasks.new.store) _ c.in_ok-cares.ensures.cares c.in_ok-found.ensures.grows
    (rw (c.deref-2.ensures.value, c.in_ok-list.ensures) at c.in_ok-found.ensures.done)

pub returns-in_err-found-clause-most : goal.returns-in_err-found-clause-most
returns-in_err-found-clause-most g c =
    let d = description c.args.pla.now in let few = c.args.pla.now.fits.few_outputs in
    omega (arith, ap length (c.deref-2.ensures.value ∙ c.in_ok-list.ensures), covers_few d few, first_few d c.args.mode few)

pub returns-clause-most : goal.returns-clause-most
returns-clause-most g c =
    let d = description c.args.pla.now in let few = c.args.pla.now.fits.few_outputs in
    omega (arith, ap length (c.deref-2.ensures.value ∙ c.in_ok-list.ensures), covers_few d few, first_few d c.args.mode few)
