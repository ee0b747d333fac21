use Rattle.std.proofs.Common.{◌∙◌}
use Rattle.node_store.specs.Stores.{family}
use Rattle.diagram_measures.proofs.MetLemmas.{met_none, nodes_met}
use Rattle.diagram_measures.proofs.measured.measure.Goals as goal

pub count_met-requires : goal.count_met-requires
count_met-requires g c =
    record { known = c.requires; met = met_none (g.S.Store.state c.args.store.now) c.new-met.result.entries c.new-met.ensures.len }

pub returns-clause-nodes : goal.returns-clause-nodes
returns-clause-nodes g c =
    let s = g.S.Store.state c.args.store.now in let t = g.S.Store.state c.count_met.new.store in
    let sound = g.met.S.Store.sound c.count_met.new.store in
    c.len.ensures.len ∙ nodes_met s t c.new-met.result.entries c.count_met.new.met.entries s.vars (family s c.args.a) c.new-met.ensures.len
    sound c.in_ok-counts.ensures.met c.len.ensures.unique c.in_ok-counts.ensures.nodes
