use Rattle.fork_branches.proofs.crew.+make_crew.Given as goal

abbrev pub decreases-make_crew : goal.decreases-make_crew
decreases-make_crew l = l.job_workers
