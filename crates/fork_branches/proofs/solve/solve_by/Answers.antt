use Rattle.std.proofs.Common.{◌≡◌, ◌∙◌, ◌++◌, length, drop, ap, sym, arith}
use Rattle.std.proofs.lemmas.List.{take_all, take-append-le}
use Rattle.std.proofs.lemmas.List.Elements.{Contains-append_left, Contains-append_right}
use Rattle.fork_branches.specs.Work.{answers_of, lists_of, numbers_of}
use Rattle.fork_branches.specs.Solves.{placed}
use Rattle.fork_branches.proofs.Works.{times-numbers}
use Rattle.fork_branches.proofs.Shared.{length-lists, length-with_first, times-shares}
use Rattle.fork_branches.proofs.Solving.{length-placed, placed-append, solved, works_below}
use Rattle.fork_branches.proofs.solve.solve_by.Goals as goal

pub put_all-requires : goal.put_all-requires
put_all-requires g c =
    let front = answers_of c.work_out.new.crew in let places = c.as_mut_slice-places.result.now in
    let count : length places ≡ (g.J.Jobs.tasks c.args.jobs.now).total =
    omega (arith, ap length c.as_mut_slice-places.ensures.value, c.in_ok-handles.ensures.handles, c.count-count.ensures) in
    works_below places front c.work_out.ensures.works count (Contains-append_left front c.work_out.new.rest.items)

pub put_answers-requires : goal.put_answers-requires
put_answers-requires g c =
    let front = answers_of c.work_out.new.crew in let rest = c.work_out.new.rest.items in
    let places = c.as_mut_slice-places.result.now in let handles = c.in_ok-handles.ensures.handles in
    let given = ap length c.as_mut_slice-places.ensures.value in
    let count : length c.put_all.new.handles ≡ (g.J.Jobs.tasks c.args.jobs.now).total =
    omega (arith, ap length c.put_all.ensures, length-placed front places, given, handles, c.count-count.ensures) in
    rw c.as_slice.ensures.value
    (works_below c.put_all.new.handles rest c.work_out.ensures.works count (Contains-append_right front rest))

pub returns-clause-solved : goal.returns-clause-solved
returns-clause-solved g c =
    let front = answers_of c.work_out.new.crew in let rest = c.work_out.new.rest.items in
    let places = c.as_mut_slice-places.result.now in let vec = c.in_ok-handles.field-0.handles in let after = c.put_answers.new.handles in
    let given = ap length c.as_mut_slice-places.ensures.value in
    let count : length places ≡ (g.J.Jobs.tasks c.args.jobs.now).total =
    omega (arith, given, c.in_ok-handles.ensures.handles, c.count-count.ensures) in
    let is : after ≡ placed (front ++ rest) places =
    c.put_answers.ensures ∙ rw (c.as_slice.ensures.value, c.put_all.ensures) (sym (placed-append front rest places)) in
    let all = solved places c.in_ok-work_out.ensures.works count (λ x. times-numbers x front rest ∙ c.in_ok-work_out.ensures.once x) in
    let same : length after ≡ vec.len = omega (arith, ap length is, length-placed (front ++ rest) places, given, vec.ok.0) in
    rw (
      take-append-le vec.len after (drop (length after) vec.items) (omega (arith, same)),
      take_all vec.len after (omega (arith, same)),
      is,
    ) all

pub returns-clause-lists : goal.returns-clause-lists
returns-clause-lists g c =
    let crew = c.work_out.new.crew in
    omega (
      arith,
      length-with_first (numbers_of c.work_out.new.rest.items) (lists_of crew),
      length-lists crew,
      c.in_ok-work_out.ensures.as_many,
      c.in_ok-handles.ensures.job_workers,
      c.count-count.ensures,
    )

pub returns-clause-once : goal.returns-clause-once
returns-clause-once g c x =
    let crew = c.work_out.new.crew in
    omega (
      arith,
      times-shares x c.work_out.new.rest.items crew (omega (
        arith,
        c.in_ok-work_out.ensures.as_many,
        c.in_ok-handles.ensures.job_workers,
        c.count-count.ensures,
        c.if-count-eq0.false,
        c.requires.workers,
      )),
      c.in_ok-work_out.ensures.once x,
    )
