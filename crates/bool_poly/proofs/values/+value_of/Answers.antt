use Rattle.std.proofs.Common.{sym, ◌∙◌, arith}
use Rattle.node_store.proofs.StoreLaws.{Grows-family, Reads-trans}
use Rattle.bool_poly.proofs.NodeLemmas.{at_node, low_call, high_call, node_without, node_with, constant_value}
use Rattle.bool_poly.proofs.values.+value_of.Goals as goal

pub value_of-low-requires : goal.value_of-low-requires
value_of-low-requires g t c κs within = grind (arith, low_call, at_node, g.met.S.Store.sound c.node.new.self, within)

pub value_of-requires : goal.value_of-requires
value_of-requires g t c κs within = grind (arith, high_call, at_node, g.met.S.Store.sound c.node.new.self, within)

pub returns-in-None-clause-value : goal.returns-in-None-clause-value
returns-in-None-clause-value g t c = grind (arith, constant_value, g.met.S.Store.sound c.args.store.now)

pub returns-then-divides : goal.returns-then-divides
returns-then-divides g t c =
    let at = at_node (g.met.S.Store.sound c.node.new.self) c.node.ensures.reads c.in-Some.ensures.node c.in-Some.ensures.family in
    let later = c.value_of-low.ensures.reads in
    let same = Grows-family _ _ c.in-Some.n.hi later.grows at.node.parts.hi_known in
    record {
      reads = Reads-trans _ _ _ (Reads-trans _ _ _ c.node.ensures.reads later) c.value_of.ensures.reads;
      value = node_with at c.vars.ensures _ _ c.args.point (sym c.divides.ensures ∙ c.if-divides.true) c.value_of-low.ensures.value
          (rw same at c.value_of.ensures.value);
    }

pub returns-else-divides-clause-value : goal.returns-else-divides-clause-value
returns-else-divides-clause-value g t c =
    node_without (at_node (g.met.S.Store.sound c.node.new.self) c.node.ensures.reads c.in-Some.ensures.node c.in-Some.ensures.family)
    c.vars.ensures _ c.args.point (sym c.divides.ensures ∙ c.if-divides.false) c.value_of-low.ensures.value
