use Rattle.std.proofs.lemmas.Result.{IfOk-weaker}
use Rattle.computed_cache.specs.Cached.{cached_state}
use Rattle.pla_reader.specs.Reading.{description}
use Rattle.interp_run.proofs.TaskJobs.{may_work, solved_done}
use Rattle.interp_run.proofs.tasks.run_tasks.Goals as goal

pub all-requires-clause-may : goal.all-requires-clause-may
all-requires-clause-may g c κs within =
    let tasks = c.args.tasks.now in
    may_work (cached_state c.args.store.now) (description tasks.pla.now) tasks.cares.now tasks.list.now tasks.few c.requires.vars
    c.requires.cares c.requires.planned

pub returns-clause-done : goal.returns-clause-done
returns-clause-done g c =
    let tasks = c.args.tasks.now in
    IfOk-weaker c.all.result _ _ (λ found solved. solved_done (description tasks.pla.now) (cached_state c.all.new.pass)
    (cached_state c.args.store.now) tasks.cares.now tasks.list.now found.items solved) c.all.ensures.solved
