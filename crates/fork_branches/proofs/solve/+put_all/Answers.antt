use Rattle.std.proofs.Common.{rules, ◌≡◌, ◌+◌, ◌++◌, ◌∙◌, length, ap}
use Rattle.std.specs.List.{All}
use Rattle.std.proofs.lemmas.List.Elements.{Contains-append_left, Contains-append_right}
use Rattle.fork_branches.specs.Work.{answers_of, size_of}
use Rattle.fork_branches.proofs.Solving.{Below, part_below, length-placed, placed-append}
use Rattle.fork_branches.proofs.solve.+put_all.Goals as goal

pub put_all-requires : goal.put_all-requires
put_all-requires t c =
    let one = c.deref.result.now in let two = c.in-Two.second.value in let front = answers_of one in let back = answers_of two in
    let size : size_of c.args.crew.now ≡ size_of one + size_of two + 1 = rw (c.in-Two.is, c.deref.ensures) in
    let all : All (Below c.args.handles.now) (front ++ back) = rw (c.in-Two.is, ← c.deref.ensures) at c.requires in
    (search (rules, size), part_below c.args.handles.now (front ++ back) front all (Contains-append_left front back))

pub put_all-requires-in-Two : goal.put_all-requires-in-Two
put_all-requires-in-Two t c =
    let one = c.deref.result.now in let two = c.deref-in-Two.result.now in let front = answers_of one in let back = answers_of two in
    let size : size_of c.args.crew.now ≡ size_of one + size_of two + 1 = rw (c.in-Two.is, c.deref.ensures, c.deref-in-Two.ensures) in
    let all : All (Below c.args.handles.now) (front ++ back) =
    rw (c.in-Two.is, ← c.deref.ensures, ← c.deref-in-Two.ensures) at c.requires in
    let same = ap length c.put_all.ensures ∙ length-placed front c.args.handles.now in
    (search (rules, size), rw same (part_below c.args.handles.now (front ++ back) back all (Contains-append_right front back)))

pub returns-in-Two : goal.returns-in-Two
returns-in-Two t c =
    rw (c.in-Two.is, ← c.deref.ensures, ← c.deref-in-Two.ensures, placed-append, ← c.put_all.ensures) c.put_all-in-Two.ensures
