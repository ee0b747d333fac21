use Rattle.std.proofs.Common.{◌≡◌, ◌≤◌, ◌++◌, List, length, arith}
use Rattle.job_deques.specs.declared.seat.Seat.{Seat}
use Rattle.job_deques.specs.Seats.{Layout}
use Rattle.job_deques.specs.Hands.{places}
use Rattle.job_deques.specs.Deals.{layout}
use Rattle.job_deques.proofs.Given.{length-numbers}
use Rattle.job_deques.proofs.Made.{taking_both}
use Rattle.job_deques.proofs.deques.DequesDealing.unite.Goals as goal

pub returns-clause-of : goal.returns-clause-of
returns-clause-of c =
    let l : Layout = layout c.args.self.now in let xs : List Seat = c.args.first.seats in let ys : List Seat = c.args.second.seats in
    let few : length (places xs ++ places ys) ≤ l.total =
    omega (arith, c.requires.few, c.requires.first.total, length-numbers c.args.self.now.total) in
    let items : c.append.new.self ≡ xs ++ ys = rw c.unwrap.ensures at c.append.ensures.items in
    record { total = c.requires.first.total; seats = rw items (taking_both l xs ys c.requires.first.seats c.requires.second.seats few) }
