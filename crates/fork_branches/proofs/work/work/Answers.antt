use Rattle.std.proofs.Common.{◌≡◌, ◌<◌, Ok, Err, ◌++◌, ◌∷◌, [], ap, length, length-append, arith}
use Rattle.std.proofs.lemmas.List.{append-nil}
use Rattle.fork_branches.specs.declared.crew.Answer.{Answer}
use Rattle.fork_branches.proofs.Works.{full_works, may_later, one_works, room, takes_then, works_then}
use Rattle.fork_branches.proofs.work.work.Goals as goal

pub unwrap-requires : goal.unwrap-requires
unwrap-requires g c =
    let dealer = c.args.dealer.now in let took = c.in-Some.ensures in let answers = c.loop-number.answers in
    let few = room answers.items (g.D.Dealing.total dealer) c.in-Some.number (g.D.Dealing.took dealer c.take.new.hand)
    c.loop-number.invariant.takes took.some took.once in
    let free : length answers.items < answers.cap = omega (arith, few, c.requires.total, c.loop-number.invariant.room) in
    grind (arith, free, c.push.ensures.succeeds)

pub loop-number-smaller : goal.loop-number-smaller
loop-number-smaller g c =
    let dealer = c.args.dealer.now in let took = c.in-Some.ensures in let answers = c.loop-number.answers.items in
    let few = room answers (g.D.Dealing.total dealer) c.in-Some.number (g.D.Dealing.took dealer c.take.new.hand)
    c.loop-number.invariant.takes took.some took.once in
    let a : Answer = record { number = c.in-Some.number; handle = c.in-Ok.handle } in
    let items : c.push.new.self.items ≡ answers ++ a ∷ [] = rw c.unwrap.ensures at c.push.ensures.items in
    omega (arith, few, c.requires.total, ap length items, length-append answers (a ∷ []))

pub loop-number-preserved : goal.loop-number-preserved
loop-number-preserved g c =
    let a : Answer = record { number = c.in-Some.number; handle = c.in-Ok.handle } in let before = c.loop-number.invariant in
    let took = c.in-Some.ensures in let gives = c.in-Ok.ensures.runs in
    let items : c.push.new.self.items ≡ c.loop-number.answers.items ++ a ∷ [] = rw c.unwrap.ensures at c.push.ensures.items in record {
      may = may_later gives.grows before.may;
      room = omega (arith, c.push.ensures.capacity, before.room);
      works = rw items
          (works_then (Ok tt) before.works (one_works c.in-Some.number (omega (arith, took.below, c.requires.total)) gives));
      takes = rw items (takes_then (Ok tt) before.takes (record { of = took.of; shares = took.shares; took = took.some }));
    }

pub returns-in-Err-clause-works : goal.returns-in-Err-clause-works
returns-in-Err-clause-works g c =
    rw (← append-nil c.loop-number.answers.items)
    (works_then (Err c.in-Err.full) c.loop-number.invariant.works (full_works c.in-Err.ensures.runs))
