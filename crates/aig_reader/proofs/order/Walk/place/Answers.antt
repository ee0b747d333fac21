use Rattle.std.proofs.Common.{refl, sym, ◌∙◌, arith}
use Rattle.std.proofs.lemmas.List.{nil_from_length}
use Rattle.aig_reader.specs.declared.order.Walk.{Walk}
use Rattle.aig_reader.specs.Order.{already, ordered}
use Rattle.aig_reader.proofs.Walks.{last_within, visited, fewer, turned, root_placed}
use Rattle.aig_reader.proofs.order.Walk.place.Goals as goal

pub returns-then-not-is_open-clause-placed : goal.returns-then-not-is_open-clause-placed
returns-then-not-is_open-clause-placed c = λ same. already _ _ (sym c.is_open.ensures ∙ c.if-not-is_open.true)

pub visit-requires-clause-last : goal.visit-requires-clause-last
visit-requires-clause-last c =
    let walk = c.loop-last.self in let before : Walk = record { order = walk.order; seen = walk.seen; path = c.pop.new.self } in
    last_within c.args.inputs c.args.lines.now c.args.variable (ordered c.args.self.now.order) walk before c.in-Some.last
    c.loop-last.invariant refl refl c.in-Some.ensures.items

pub returns-then-not-branch-clause-on_itself : goal.returns-then-not-branch-clause-on_itself
returns-then-not-branch-clause-on_itself c = λ same.
    let walk = c.loop-last.self in let before : Walk = record { order = walk.order; seen = walk.seen; path = c.pop.new.self } in
    turned c.args.inputs c.args.lines.now c.args.variable (ordered c.args.self.now.order) walk before c.in-Some.last
    c.loop-last.invariant refl refl c.in-Some.ensures.items c.requires.gates c.visit.new.self c.in_ok-visit.ensures.visits
    c.if-not-branch.true

pub loop-last-smaller : goal.loop-last-smaller
loop-last-smaller c =
    let walk = c.loop-last.self in let before : Walk = record { order = walk.order; seen = walk.seen; path = c.pop.new.self } in
    fewer c.args.inputs c.args.lines.now c.args.variable (ordered c.args.self.now.order) walk before c.in-Some.last
    c.loop-last.invariant refl refl c.in-Some.ensures.items c.requires.gates c.visit.new.self c.in_ok-visit.ensures.visits
    c.if-not-branch.false

pub loop-last-preserved : goal.loop-last-preserved
loop-last-preserved c =
    let walk = c.loop-last.self in let before : Walk = record { order = walk.order; seen = walk.seen; path = c.pop.new.self } in
    visited c.args.inputs c.args.lines.now c.args.variable (ordered c.args.self.now.order) walk before c.in-Some.last
    c.loop-last.invariant refl refl c.in-Some.ensures.items c.requires.gates c.visit.new.self c.in_ok-visit.ensures.visits
    c.if-not-branch.false

pub returns-clause-placed : goal.returns-clause-placed
returns-clause-placed c = λ same.
    root_placed c.args.inputs c.args.lines.now c.args.variable (ordered c.args.self.now.order) c.loop-last.self
    (nil_from_length _ (omega (arith, c.in_default.ensures.cases.0, c.loop-last.self.path.ok.0))) c.loop-last.invariant
    (sym c.is_open.ensures ∙ c.if-not-is_open.false)
