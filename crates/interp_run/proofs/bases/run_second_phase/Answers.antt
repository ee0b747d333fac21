use Rattle.std.proofs.Common.{[], ap, arith, cond, length, map, sym, ◌∙◌}
use Rattle.std.proofs.lemmas.Result.{IfOk-weaker}
use Rattle.std.proofs.lemmas.Slice.Zip.{AllZip-long}
use Rattle.lattice.specs.Words.{is_basis, output_numbers}
use Rattle.computed_cache.specs.Cached.{cached_state}
use Rattle.pla_reader.specs.Reading.{description}
use Rattle.interp_run.specs.Phases.{task}
use Rattle.interp_run.specs.declared.tasks.Part.TheVariants.{Leads}
use Rattle.interp_run.proofs.GroupedElements.{elements_enough, leads_counted, outputs_answered, polynomials_enough}
use Rattle.interp_run.proofs.OutputLists.{length-output_numbers}
use Rattle.interp_run.proofs.PhaseLists.{are_second_tasks, second_parted, first_later}
use Rattle.lattice.proofs.Polynomials.{IsFamily-care_set}
use Rattle.interp_run.proofs.bases.run_second_phase.Goals as goal

pub list_second_tasks-requires : goal.list_second_tasks-requires
list_second_tasks-requires g c = record { leads = leads_counted (description c.args.pla.now) c.args.mode c.args.leads.now c.requires.leads }

pub invariant_of-tasks : goal.invariant_of-tasks
invariant_of-tasks g c =
    let d = description c.args.pla.now in
    let list = c.deref-2.ensures.value ∙ c.in_ok-list.ensures c.args.mode c.requires.leads in
    record {
      consistent = c.requires.consistent;
      are_tasks = rw list (are_second_tasks d c.args.mode (IsFamily-care_set d.inputs d.kind d.rows));
      many = ap length c.deref.ensures.value ∙ (sym (AllZip-long _ _ _ c.requires.first.cares) ∙ length-output_numbers d.outputs);
      few = rw list (omega (arith, c.requires.few));
    }

pub run_tasks-requires-clause-cares : goal.run_tasks-requires-clause-cares
run_tasks-requires-clause-cares g c κs within = rw c.deref.ensures.value c.requires.first.cares

pub run_tasks-requires-clause-planned : goal.run_tasks-requires-clause-planned
run_tasks-requires-clause-planned g c κs within = rw (c.deref-2.ensures.value, c.in_ok-list.ensures c.args.mode c.requires.leads)
    ((second_parted (description c.args.pla.now) c.args.mode).planned (cached_state c.args.store.now).plan c.requires.planned).1

pub returns-clause-enough : goal.returns-clause-enough
returns-clause-enough g c =
    let d = description c.args.pla.now in let leads = c.args.leads.now in let found = c.args.first.now.found.items in
    let rest = cond (is_basis c.args.mode) (map (task Leads) (output_numbers d.outputs)) [] in
    let enough = polynomials_enough (cached_state c.args.store.now) d found rest c.requires.first.found in
    let many = leads_counted d c.args.mode leads c.requires.leads in
    IfOk-weaker c.run_tasks.result _ _ (λ elements are.
    let done = rw (c.deref-2.ensures.value, c.in_ok-list.ensures c.args.mode c.requires.leads) at are in
    (omega (arith, enough, many), elements_enough (cached_state c.run_tasks.new.store) d c.args.mode _ leads done.each c.requires.leads))
    c.run_tasks.ensures.done

pub returns-clause-solved : goal.returns-clause-solved
returns-clause-solved g c =
    let d = description c.args.pla.now in let mode = c.args.mode in let u = cached_state c.run_tasks.new.store in
    let rest = cond (is_basis mode) (map (task Leads) (output_numbers d.outputs)) [] in
    let later = first_later d mode (cached_state c.args.store.now) u c.args.first.now c.run_tasks.ensures.grows c.requires.first in
    IfOk-weaker c.run_tasks.result _ _ (λ elements are.
    let done = rw (c.deref-2.ensures.value, c.in_ok-list.ensures mode c.requires.leads) at are in
    let answers = outputs_answered u d mode c.args.first.now.found.items rest c.args.leads.now elements.items later.found
    c.requires.leads done.each in
    record { known = answers.0; answers = answers.1; held = (second_parted d mode).held u.held later.held done.held })
    c.run_tasks.ensures.done
