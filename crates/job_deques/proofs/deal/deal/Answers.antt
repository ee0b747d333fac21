use Rattle.std.proofs.Common.{length, ◌≡◌, ◌<◌, ◌%◌, ℕ, arith, ap, add-one}
use Rattle.std.proofs.Math.Nat.{mod-lt}
use Rattle.job_deques.specs.Dealt.{numbered}
use Rattle.job_deques.proofs.Placed.{has_all, dealt_more}
use Rattle.job_deques.proofs.deal.deal.Goals as goal

pub push-requires : goal.push-requires
push-requires g c =
    let n = c.loop-number.number in let seats = c.loop-number.seats.items in
    let total : c.len-total.result ≡ g.l.total = omega (arith, c.len-total.ensures, c.requires.1.total, c.args.seats.now.ok.0) in
    let rest : n % c.len-total.result < c.len-total.result = mod-lt n (omega (arith, total, c.requires.0)) in
    let less : n % c.len-total.result < length seats = omega (arith, rest, total, c.loop-number.invariant.total) in
    has_all (numbered g.l n) seats (n % c.len-total.result) c.index_mut.result.now less c.index_mut.ensures.value c.loop-number.invariant

pub loop-number-preserved : goal.loop-number-preserved
loop-number-preserved g c =
    let n = c.loop-number.number in let seats = c.loop-number.seats.items in
    let total : c.len-total.result ≡ g.l.total = omega (arith, c.len-total.ensures, c.requires.1.total, c.args.seats.now.ok.0) in
    let rest : n % c.len-total.result < c.len-total.result = mod-lt n (omega (arith, total, c.requires.0)) in
    let less : n % c.len-total.result < length seats = omega (arith, rest, total, c.loop-number.invariant.total) in
    let more = dealt_more g.l n (n % c.len-total.result) seats c.index_mut.result.now c.push.new.self (ap (λ (k : ℕ). n % k) total) less
    c.index_mut.ensures.value c.in_ok-push.ensures.deque c.in_ok-push.ensures.view c.loop-number.invariant in rw (add-one n) more
