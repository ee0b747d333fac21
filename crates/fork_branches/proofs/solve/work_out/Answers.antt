use Rattle.std.proofs.Common.{rules, Ok, []}
use Rattle.computed_cache.specs.Cached.{cached_state}
use Rattle.fork_branches.specs.Work.{MayWork}
use Rattle.fork_branches.proofs.Works.{may_later, nothing_works, works_then}
use Rattle.fork_branches.proofs.solve.work_out.Goals as goal

pub returns-in_err-result-clause-worked : goal.returns-in_err-result-clause-worked
returns-in_err-result-clause-worked g c =
    let t = cached_state c.work_in-hand.new.pass in
    record { between = t; beside = c.work_in-hand.ensures.worked; after = record { answers = []; result = Ok tt; works = nothing_works t } }

pub work-requires : goal.work-requires
work-requires g c =
    let may : MayWork (g.J.Jobs.tasks c.args.jobs.now) (cached_state c.work_in-hand.new.pass) =
    may_later c.work_in-hand.ensures.works.grows c.requires.may in search (rules, may)

pub returns-clause-works : goal.returns-clause-works
returns-clause-works g c =
    works_then c.work.result (rw c.in_ok-result.was at c.work_in-hand.ensures.works) c.work.ensures.works
