use Rattle.std.proofs.Common.{rules, ◌∙◌, ap, sym}
use Rattle.unique_table.specs.Passes.{twin_of}
use Rattle.computed_cache.specs.Cached.{cached_sound, cached_state}
use Rattle.fork_branches.specs.Work.{AreIdle, DidWork, IsSent, alone, in_halves, job_workers_of}
use Rattle.fork_branches.specs.declared.crew.Crew.TheVariants.{One}
use Rattle.fork_branches.proofs.Branches.{takes_both}
use Rattle.fork_branches.proofs.Works.{both_take, both_work, sent}
use Rattle.fork_branches.proofs.crews.+crews.Goals as goal

pub work_both-join-front-requires-after_bounds : goal.work_both-join-front-requires-after_bounds
work_both-join-front-requires-after_bounds g t c κs within =
    let s = cached_state c.args.pass.now in let tasks = g.J.Jobs.tasks c.args.jobs.now in let table = c.table-table.result.now in
    let x_is = c.end-one.ensures.state ∙ (c.end.ensures.state ∙ c.split.ensures.twin) in
    let z_is = c.end-two.ensures.state ∙ (c.end-2.ensures.state ∙ (c.split-2.ensures.twin ∙ ap twin_of c.split.ensures.same)) in
    let front : IsSent tasks table c.end-one.result c.args.first.value =
    sent c.args.first.value s c.requires.may c.table-table.ensures x_is c.requires.front in
    let back : IsSent tasks table c.end-two.result c.args.second.value =
    sent c.args.second.value s c.requires.may c.table-table.ensures z_is c.requires.back in
    search (rules, front, back)

pub work_in-work-result-requires : goal.work_in-work-result-requires
work_in-work-result-requires g t c =
    let idle : AreIdle (g.J.Jobs.tasks c.args.jobs.now).total (One c.in-One.worker) =
    rw (sym c.replace.ensures.value ∙ c.in-One.is) at c.requires.idle in
    search (rules, idle)

pub work_in-returns-in-One-clause-worked : goal.work_in-returns-in-One-clause-worked
work_in-returns-in-One-clause-worked g t c =
    let did : DidWork (g.J.Jobs.tasks c.args.jobs.now) (cached_state c.args.pass.now) (cached_state c.work-result.new.pass) =
    record { answers = _; result = _; works = c.work-result.ensures.works } in
    rw (sym c.replace.ensures.value ∙ c.in-One.is) (alone _ _ did)

pub work_both-returns-clause-works : goal.work_both-returns-clause-works
work_both-returns-clause-works g t c =
    let here = c.split-2.ensures.same ∙ c.split.ensures.same in let z_is = c.split-2.ensures.twin ∙ ap twin_of c.split.ensures.same in
    let front = c.join-front.result.0 in let back = c.join-front.result.1 in
    rw c.and-result.ensures (both_work (cached_sound c.args.pass.now) (cached_sound c.join.new.self) (cached_sound c.join-2.new.self)
    (rw (c.new.ensures.state, c.pass.ensures.state, here) at c.join.ensures.joined)
    (rw (c.new-2.ensures.state, c.pass-2.ensures.state) at c.join-2.ensures.joined) front.result back.result
    (rw (c.end-one.ensures.state, c.end.ensures.state, c.split.ensures.twin) at c.join-front.ensures.first.0.works)
    (rw (c.end-two.ensures.state, c.end-2.ensures.state, z_is) at c.join-front.ensures.second.0.works))

pub work_both-returns-clause-takes : goal.work_both-returns-clause-takes
work_both-returns-clause-takes g t c =
    let front = c.join-front.result.0 in let back = c.join-front.result.1 in let halves = c.halve-mine.ensures in
    let all = c.unite-hand.ensures in
    rw c.and-result.ensures (both_take front.result back.result c.join-front.ensures.first.1 c.join-front.ensures.second.1 halves.shares
    halves.took all.of all.shares all.took)

pub work_both-returns-clause-worked : goal.work_both-returns-clause-worked
work_both-returns-clause-worked g t c =
    let here = c.split-2.ensures.same ∙ c.split.ensures.same in let z_is = c.split-2.ensures.twin ∙ ap twin_of c.split.ensures.same in
    let s = cached_state c.args.pass.now in let t' = cached_state c.join-2.new.self in
    let front = c.join-front.result.0 in let back = c.join-front.result.1 in
    let one = rw (c.end-one.ensures.state, c.end.ensures.state, c.split.ensures.twin) at c.join-front.ensures.first.0.worked in
    let two = rw (c.end-two.ensures.state, c.end-2.ensures.state, z_is) at c.join-front.ensures.second.0.worked in
    let takes = takes_both (rw (c.new.ensures.state, c.pass.ensures.state, here) at c.join.ensures.joined)
    (rw (c.new-2.ensures.state, c.pass-2.ensures.state) at c.join-2.ensures.joined) in
    in_halves (job_workers_of c.args.first.value) (job_workers_of c.args.second.value) s t' front.token back.token
    (record { answers = _; result = _; works = work_both-returns-clause-works g t c }) one two takes
