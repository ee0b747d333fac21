use Rattle.node_store.proofs.StoreLaws.{then_reads}
use Rattle.set_algebra.proofs.Halving.{parts_asked}
use Rattle.set_algebra.proofs.Levels.{asks_later, cofactors_before, order-asks, order-same}
use Rattle.set_algebra.proofs.pointwise.begin.Goals as goal

pub found-requires : goal.found-requires
found-requires g c = record {
  op = c.requires.op;
  asks = order-asks c.args.op (g.S.Store.state c.args.store.now) c.args.a c.args.b c.in_order.result.0 c.in_order.result.1
      c.in_order.ensures c.requires.asks;
}

pub returns-in-Some-clause-done : goal.returns-in-Some-clause-done
returns-in-Some-clause-done g c =
    let x = c.in_order.result.0 in let y = c.in_order.result.1 in
    rw (← order-same c.args.op (g.S.Store.state c.args.store.now) c.args.a c.args.b x y c.in_order.ensures) c.in-Some.ensures.some

pub cut-requires : goal.cut-requires
cut-requires g c =
    let op = c.args.op in let s = g.S.Store.state c.args.store.now in let x = c.in_order.result.0 in let y = c.in_order.result.1 in
    let mine = order-asks op s c.args.a c.args.b x y c.in_order.ensures c.requires.asks in
    let later = asks_later op s (g.S.Store.state c.found.new.store) x y c.found.ensures.reads.grows mine in
    record { a = later.first; b = later.second; some = c.in-None.ensures.none }

pub returns-in-None : goal.returns-in-None
returns-in-None g c =
    let op = c.args.op in let s = g.S.Store.state c.args.store.now in let x = c.in_order.result.0 in let y = c.in_order.result.1 in
    let mine = order-asks op s c.args.a c.args.b x y c.in_order.ensures c.requires.asks in
    let reads = then_reads c.found.ensures.reads c.cut.ensures.reads in
    let are = cofactors_before c.found.ensures.reads mine.first mine.second c.cut.ensures.cofactors in
    let asked = parts_asked (g.met.S.Store.sound c.args.store.now) mine reads.grows are in record {
      reads = reads;
      done = tt;
      order = c.in_order.ensures;
      cofactors = are;
      low = asked.0;
      high = asked.1;
    }
