use Rattle.interp_run.proofs.TaskJobs.{cubes_from_uses}
use Rattle.interp_run.proofs.cover_jobs.CoverJobsJobs.one.Goals as goal

pub cover-requires-clause-cubes : goal.cover-requires-clause-cubes
cover-requires-clause-cubes g c =
    let self = c.args.self.now in
    rw c.as_slice.ensures (cubes_from_uses (g.S.Store.state c.args.store.now) self.pla.now.inputs c.requires.vars self.pla.now.rows
    self.cubes.now self.many c.requires.uses)
