use Rattle.std.proofs.Common.{◌<◌, length, set, arith, ap, length-set}
use Rattle.job_deques.specs.declared.view.Hold.{Hold}
use Rattle.job_deques.specs.declared.seat.Seat.{Seat}
use Rattle.job_deques.proofs.Placed.{enough, its_way, lent, received}
use Rattle.job_deques.proofs.lend.lend_one.Goals as goal

pub lend-requires : goal.lend-requires
lend-requires g c =
    let all = c.requires.1.1 in
    enough g.l c.args.to c.args.deque c.args.seats.now.items c.index_mut.result.now (omega (arith, c.requires.0.0, all.total))
    c.index_mut.ensures.value c.requires.0.1 c.requires.1.0 all

pub returns : goal.returns
returns g c =
    let l = g.l in let all = c.requires.1.1 in let small = c.requires.1.0 in let inside = c.requires.0.1 in
    let seats = c.args.seats.now.items in let i = c.args.to in let j = c.args.deque in let s = c.index_mut.result.now in
    let less : j < length seats = omega (arith, c.requires.0.0, all.total) in
    let at = c.index_mut.ensures.value in let lends = c.in_ok-way.ensures in let mid : Seat = record s { own = c.lend.new.self } in
    let way = its_way l i j seats s less at c.in_ok-way.way all lends.way.0 lends.way.1 in
    let after = lent l i j seats s less at c.lend.new.self lends.deque lends.view inside small all in
    let within : i < length (set seats j mid) = omega (arith, inside, all.total, length-set seats j mid) in
    let takes = c.in_ok-receive.ensures in
    received l i j (set seats j mid) c.index_mut-2.result.now c.receive.new.self c.in_ok-way.way within c.index_mut-2.ensures.value
    takes.ways takes.own takes.at way (ap (λ (v : Hold). v.taken) lends.way.1) after
