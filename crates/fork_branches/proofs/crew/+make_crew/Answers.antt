use Rattle.std.proofs.Common.{◌≤◌, ◌∙◌, ap, arith}
use Rattle.fork_branches.specs.Work.{workers_of}
use Rattle.fork_branches.proofs.Halving.{workers_add}
use Rattle.fork_branches.proofs.crew.+make_crew.Goals as goal

pub returns-clause-workers : goal.returns-clause-workers
returns-clause-workers t c =
    let front = ap workers_of c.in_ok-first-2.ensures.ok ∙ c.in_ok-first.ensures.workers in
    let back = ap workers_of c.in_ok-second-2.ensures.ok ∙ c.in_ok-second.ensures.workers in
    let less : c.min-more_front.result ≤ c.args.more = omega (arith, c.min-more_front.ensures) in
    omega (arith, front, back, workers_add c.args.job_workers c.args.each c.args.more c.min-more_front.result less)
