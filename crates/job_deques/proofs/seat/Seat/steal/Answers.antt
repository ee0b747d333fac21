use Rattle.std.proofs.Common.{◌+◌, ◌%◌, ℕ, length, arith, refl, ap}
use Rattle.job_counter.specs.Numbers.{times}
use Rattle.job_deques.specs.declared.view.Hold.{Hold}
use Rattle.job_deques.specs.Seats.{way_view}
use Rattle.job_deques.proofs.Seated.{inside, more, stays_on, way_used, stole_set, below_of}
use Rattle.job_deques.proofs.seat.Seat.steal.Goals as goal

pub returns-in-Some-clause-same : goal.returns-in-Some-clause-same
returns-in-Some-clause-same c =
    let from : ℕ = (c.loop-turn.self.at + c.loop-turn.turn) % c.len-total.result in
    let less = inside (c.loop-turn.self.at + c.loop-turn.turn) c.len-total.result (length c.loop-turn.self.ways.items) (omega arith)
    (omega (arith, c.len-total.ensures, c.loop-turn.invariant.same.many, c.args.self.now.ways.ok.0)) in
    let m = more c.in-Some.number (way_view c.index_mut.result.now) (way_view c.steal.new.self) c.in-Some.ensures.rule in
    stays_on c.loop-turn.invariant.same (way_used c.loop-turn.self _ from c.index_mut.result.now c.steal.new.self less
    c.index_mut.ensures.value c.if-from-self.false refl refl refl c.in-Some.ensures.deque m.0 m.1 (λ _. c.in-Some.ensures.rule.1))

pub returns-in-Some-clause-below : goal.returns-in-Some-clause-below
returns-in-Some-clause-below c l h below =
    let from : ℕ = (c.loop-turn.self.at + c.loop-turn.turn) % c.len-total.result in
    let less = inside (c.loop-turn.self.at + c.loop-turn.turn) c.len-total.result (length c.loop-turn.self.ways.items) (omega arith)
    (omega (arith, c.len-total.ensures, c.loop-turn.invariant.same.many, c.args.self.now.ways.ok.0)) in
    let m = more c.in-Some.number (way_view c.index_mut.result.now) (way_view c.steal.new.self) c.in-Some.ensures.rule in
    below_of l c.loop-turn.self from c.in-Some.number c.index_mut.result.now less c.index_mut.ensures.value
    (c.loop-turn.invariant.same.taking l h) below m.3

pub loop-turn-preserved : goal.loop-turn-preserved
loop-turn-preserved c =
    let from : ℕ = (c.loop-turn.self.at + c.loop-turn.turn) % c.len-total.result in
    let less = inside (c.loop-turn.self.at + c.loop-turn.turn) c.len-total.result (length c.loop-turn.self.ways.items) (omega arith)
    (omega (arith, c.len-total.ensures, c.loop-turn.invariant.same.many, c.args.self.now.ways.ok.0)) in
    let view = c.in_default.ensures.rule in record {
      same = stays_on c.loop-turn.invariant.same (way_used c.loop-turn.self _ from c.index_mut.result.now c.steal.new.self less
          c.index_mut.ensures.value c.if-from-self.false refl refl refl c.in_default.ensures.deque (ap (λ (v : Hold). v.pushed) view)
          (ap (λ (v : Hold). v.parts) view) (λ within. rw view within));
      own = c.loop-turn.invariant.own;
      took = λ x.
          let e = ap (λ (v : Hold). times x v.taken) view in
          let same = stole_set c.loop-turn.self.ways.items from c.steal.new.self c.index_mut.result.now x less c.index_mut.ensures.value in
          omega (arith, e, same, c.loop-turn.invariant.took x);
    }
