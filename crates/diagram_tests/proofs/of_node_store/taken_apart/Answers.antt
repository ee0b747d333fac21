use Rattle.std.proofs.Common.{arith}
use Rattle.lattice.specs.Words.{power}
use Rattle.lattice.proofs.Diagrams.{IsFamily-nil, IsFamily-power}
use Rattle.node_store.proofs.StoreLaws.{Denotes-family}
use Rattle.diagram_tests.proofs.of_node_store.taken_apart.Goals as goal

pub parts-halves-requires-clause-after : goal.parts-halves-requires-clause-after
parts-halves-requires-clause-after g c =
    let t = g.S.Store.state c.first_var-first.new.store in let grows = c.first_var-first.ensures.reads.grows in
    let is = Denotes-family t c.args.all (power 2) (grows.known c.args.all.0 (power 2) c.requires.all) in
    grind (arith, IsFamily-power 2, grows.vars, c.requires.vars)

pub grow-grown-requires-clause-parts : goal.grow-grown-requires-clause-parts
grow-grown-requires-clause-parts g c =
    let one = c.first_var-first.ensures.reads.grows in let two = c.parts-halves.ensures.reads.grows in
    let known = two.known c.args.all.0 (power 2) (one.known c.args.all.0 (power 2) c.requires.all) in
    let is = Denotes-family (g.S.Store.state c.parts-halves.new.store) c.args.all (power 2) known in
    let ok = g.met.S.Store.sound c.parts-halves.new.store in
    grind (arith, IsFamily-power 2, IsFamily-nil 2, one.vars, two.vars, c.requires.vars, ok.empty)
