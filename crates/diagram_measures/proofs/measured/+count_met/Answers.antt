use Rattle.std.proofs.Common.{ℕ, ◌<◌, arith, rules}
use Rattle.node_store.proofs.StoreLaws.{Grows-knows, then_reads}
use Rattle.diagram_measures.proofs.MetLemmas.{IsAsked, counts_node, high_falls, low_falls, meets_constant, met_before, met_later, met_node}
use Rattle.diagram_measures.proofs.MetLemmas.{parts_small}
use Rattle.diagram_measures.proofs.measured.+count_met.Goals as goal
use Rattle.diagram_measures.proofs.measured.+count_met.Goals.{After-get}
use Rattle.diagram_measures.proofs.measured.+count_met.Given.{Over}

asked : (g : Over) (t : ℕ) (c : After-get g t)
    → IsAsked (g.S.Store.state c.args.store.now) (g.S.Store.state c.node.new.self) c.args.a c.in-Some.node
asked g t c = record {
  sound = g.met.S.Store.sound c.node.new.self;
  known = c.requires.known;
  grows = c.node.ensures.reads.grows;
  is = c.in-Some.ensures.node;
  whole = c.in-Some.ensures.family;
}

pub returns-in_default : goal.returns-in_default
returns-in_default g t c =
    let s = g.S.Store.state c.args.store.now in let sound = g.met.S.Store.sound c.args.store.now in
    let grows = c.node.ensures.reads.grows in let small : c.args.a.0 < 2 = search rules in record {
      reads = c.node.ensures.reads;
      counts = c.of_constant.ensures s sound;
      met = met_later grows c.requires.met;
      nodes = meets_constant s (g.S.Store.state c.node.new.self) c.args.a c.args.met.now.entries sound small grows c.requires.met;
    }

pub returns-in-Some-get : goal.returns-in-Some-get
returns-in-Some-get g t c =
    let grows = c.node.ensures.reads.grows in
    let before = met_before c.args.a _ grows c.requires.met c.in-Some-get.ensures.value in
    record { reads = c.node.ensures.reads; counts = before.0; met = met_later grows c.requires.met; nodes = before.1 }

pub count_met-requires : goal.count_met-requires
count_met-requires g t c κs within =
    let at = asked g t (goal.at.count_met-requires g t c).After-get in
    (omega (arith, low_falls at, c.decreases), (within, (at.is.parts.lo_known, met_later at.grows c.requires.met)))

pub count_met-requires-2 : goal.count_met-requires-2
count_met-requires-2 g t c κs within =
    let at = asked g t (goal.at.count_met-requires-2 g t c).After-get in let first = c.in_ok-low.ensures.reads.grows in
    let known = Grows-knows _ _ c.in-Some.node.hi first at.is.parts.hi_known in
    (omega (arith, high_falls at first, c.decreases), (within, (known, c.in_ok-low.ensures.met)))

pub returns-in_err-high-clause-reads : goal.returns-in_err-high-clause-reads
returns-in_err-high-clause-reads g t c = search (rules, arith, then_reads)

pub of_parts-counts-requires : goal.of_parts-counts-requires
of_parts-counts-requires g t c =
    let at = asked g t (goal.at.of_parts-counts-requires g t c).After-get in
    let small = parts_small at c.in_ok-low.ensures.reads.grows c.in_ok-low.ensures.counts c.in_ok-high.ensures.counts in
    record { terms = small.0; degree = small.1 }

pub returns-in_err-insert-clause-reads : goal.returns-in_err-insert-clause-reads
returns-in_err-insert-clause-reads g t c = search (rules, arith, then_reads)

pub returns : goal.returns
returns g t c =
    let at = asked g t (goal.at.returns g t c).After-get in let one = c.in_ok-low.ensures in let two = c.in_ok-high.ensures in
    let counts = counts_node at one.reads.grows one.counts two.counts c.of_parts-counts.ensures in
    let met = met_node at one.reads.grows two.reads.grows c.of_parts-counts.result c.args.met.now.entries c.count_met.new.met.entries
    c.count_met-2.new.met.entries c.requires.met two.met counts one.nodes two.nodes in
    record {
      reads = then_reads (then_reads c.node.ensures.reads one.reads) two.reads;
      counts = counts;
      met = rw c.in_ok-insert.ensures.entries met.0;
      nodes = rw c.in_ok-insert.ensures.entries met.1;
    }
