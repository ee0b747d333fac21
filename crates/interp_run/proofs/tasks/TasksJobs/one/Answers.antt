use Rattle.interp_run.proofs.TaskJobs.{cares_from_uses}
use Rattle.pla_reader.specs.Reading.{description}
use Rattle.interp_run.proofs.tasks.TasksJobs.one.Goals as goal

pub find-requires-clause-cares : goal.find-requires-clause-cares
find-requires-clause-cares g c =
    let self = c.args.self.now in
    cares_from_uses (g.S.Store.state c.args.store.now) (description self.pla.now) self.cares.now self.list.now self.many c.requires.uses
