use Rattle.std.proofs.Common.{◌≡◌, ℕ, ◌+◌, ◌-◌, ◌<◌, ◌∙◌, List, [], ◌∷◌, ◌++◌, length, get_or, Some, false, refl, sym, ap, arith}
use Rattle.std.specs.Prelude.{slice_get}
use Rattle.std.proofs.lemmas.Option.{slice_get-get_or}
use Rattle.std.proofs.lemmas.List.{get_or_read}
use Rattle.aig_reader.specs.declared.circuit.Gate.{Gate}
use Rattle.aig_reader.specs.Order.{placing, descending, turning, ordered}
use Rattle.aig_reader.proofs.Walks.{next_within}
use Rattle.aig_reader.proofs.order.Walk.visit.Goals as goal

abbrev no_gate : Gate
no_gate = record { left = 0; right = 0 }

line : (inputs : ℕ) (lines : List Gate) (last : ℕ) → (inputs < last) × (last < inputs + 1 + length lines)
    → slice_get lines (last - (inputs + 1)) ≡ Some (get_or lines (last - (inputs + 1)) no_gate)
line inputs lines last is = slice_get-get_or lines (last - (inputs + 1)) no_gate (omega (arith, is.0, is.1))

pub returns-in_default-clause-visits : goal.returns-in_default-clause-visits
returns-in_default-clause-visits c =
    placing _ (line c.args.inputs c.args.lines.now c.args.last c.requires.last) (sym c.open_operand.ensures ∙ c.in_default.is)
    c.in_ok-put.ensures refl refl refl

pub index-requires : goal.index-requires
index-requires c =
    let within = next_within c.args.inputs c.args.lines.now (ordered c.args.self.now.order) c.args.last c.in-Some.below _ c.requires.gates
    (line c.args.inputs c.args.lines.now c.args.last c.requires.last) (sym c.open_operand.ensures ∙ c.in-Some.is) in
    omega (arith, within.0, within.1, c.requires.seen, c.args.self.now.seen.ok.0)

pub returns-then-index-clause-visits : goal.returns-then-index-clause-visits
returns-then-index-clause-visits c =
    let at = line c.args.inputs c.args.lines.now c.args.last c.requires.last in
    let some = sym c.open_operand.ensures ∙ c.in-Some.is in
    let within = next_within c.args.inputs c.args.lines.now (ordered c.args.self.now.order) c.args.last c.in-Some.below _ c.requires.gates
    at some in
    let seen = get_or_read c.args.self.now.seen.items (c.in-Some.below - (c.args.inputs + 1)) c.index.result.now
    (omega (arith, within.0, within.1, c.requires.seen)) c.index.ensures false in
    turning _ c.in-Some.below at some (sym seen ∙ c.if-index.true) refl

pub push-requires-2-clause-within : goal.push-requires-2-clause-within
push-requires-2-clause-within c =
    let within = next_within c.args.inputs c.args.lines.now (ordered c.args.self.now.order) c.args.last c.in-Some.below _ c.requires.gates
    (line c.args.inputs c.args.lines.now c.args.last c.requires.last) (sym c.open_operand.ensures ∙ c.in-Some.is) in
    omega (arith, within.1, c.requires.seen)

pub returns-clause-visits : goal.returns-clause-visits
returns-clause-visits c =
    let at = line c.args.inputs c.args.lines.now c.args.last c.requires.last in
    let some = sym c.open_operand.ensures ∙ c.in-Some.is in
    let within = next_within c.args.inputs c.args.lines.now (ordered c.args.self.now.order) c.args.last c.in-Some.below _ c.requires.gates
    at some in
    let seen = get_or_read c.args.self.now.seen.items (c.in-Some.below - (c.args.inputs + 1)) c.index.result.now
    (omega (arith, within.0, within.1, c.requires.seen)) c.index.ensures false in
    descending _ c.in-Some.below at some (sym seen ∙ c.if-index.false) (ap ordered c.in_ok-push-2.ensures.order)
    c.in_ok-push-2.ensures.seen (c.in_ok-push-2.ensures.path ∙ ap (λ xs. xs ++ c.in-Some.below ∷ []) c.in_ok-push.ensures.items) refl
