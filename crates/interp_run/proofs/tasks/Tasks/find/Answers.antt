use Rattle.std.proofs.Common.{◌-◌, arith, get_or}
use Rattle.std.proofs.lemmas.List.{get_or_default}
use Rattle.node_store.proofs.StoreLaws.{Denotes-knows}
use Rattle.pla_reader.specs.Reading.{description}
use Rattle.interp_run.specs.Phases.{no_cares, no_task}
use Rattle.interp_run.proofs.TaskJobs.{care_disjoint, care_of_task, part_planned, task_given, task_part}
use Rattle.interp_run.proofs.tasks.Tasks.find.Goals as goal

pub bounds-self-task : goal.bounds-self-task
bounds-self-task g c = let self = c.args.self.now in
    let is = self.are_tasks c.args.number c.index-self-number.result c.requires.below in omega (arith, is.first, is.last, self.many)

pub find_part-requires : goal.find_part-requires
find_part-requires g c =
    let s = g.S.Store.state c.args.store.now in let self = c.args.self.now in
    let d = description self.pla.now in let task = get_or self.list.now c.args.number c.index-self-number.result in
    let p = get_or self.cares.now (task.output - 1) no_cares in
    let is = self.are_tasks c.args.number c.index-self-number.result c.requires.below in
    let care = care_of_task s d self.cares.now task c.requires.cares is in
    record {
      ready = c.requires.ready;
      zeros = Denotes-knows s p.zeros _ care.0;
      ones = Denotes-knows s p.ones _ care.1;
      disjoint = care_disjoint s d task p c.requires.vars care self.consistent is;
      part = task_part s d task p c.requires.vars care is;
      planned = part_planned s d task p c.requires.vars care
          (rw (get_or_default self.list.now c.args.number no_task c.index-self-number.result c.requires.below) at c.requires.planned);
    }

pub returns-clause-gives : goal.returns-clause-gives
returns-clause-gives g c =
    let s = g.S.Store.state c.args.store.now in let self = c.args.self.now in
    let d = description self.pla.now in let task = get_or self.list.now c.args.number c.index-self-number.result in
    let is = self.are_tasks c.args.number c.index-self-number.result c.requires.below in
    rw (get_or_default self.list.now c.args.number no_task c.index-self-number.result c.requires.below) (task_given s d task
    (get_or self.cares.now (task.output - 1) no_cares) c.requires.vars (care_of_task s d self.cares.now task c.requires.cares is)
    c.find_part.ensures.gives)
