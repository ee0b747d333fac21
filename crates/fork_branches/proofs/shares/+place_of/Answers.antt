use Rattle.std.proofs.Common.{◌≡◌, ◌∙◌, ap}
use Rattle.fork_branches.specs.Work.{job_workers_of}
use Rattle.fork_branches.proofs.Shared.{in_first, in_second}
use Rattle.fork_branches.proofs.shares.+place_of.Goals as goal

pub returns-in-Some-clause-some : goal.returns-in-Some-clause-some
returns-in-Some-clause-some t c =
    let first = c.in-Two.first.value in let found = c.in-Some.ensures in
    rw c.in-Two.is (in_first first c.in-Two.second.value c.args.number c.in-Some.place (rw c.deref.ensures at found.below)
    (rw c.deref.ensures at found.some))

pub returns-in_ok-place_of-in-None-clause-some : goal.returns-in_ok-place_of-in-None-clause-some
returns-in_ok-place_of-in-None-clause-some t c =
    let first = c.in-Two.first.value in let second = c.in-Two.second.value in let found = c.in_ok-place_of-in-None in
    let before : c.job_workers.result ≡ job_workers_of first = c.job_workers.ensures ∙ ap job_workers_of c.deref-in-None.ensures in
    rw (c.in-Two.is, before) (in_second first second c.args.number found.field-0 (rw c.deref-in-None-2.ensures at found.ensures.some))
