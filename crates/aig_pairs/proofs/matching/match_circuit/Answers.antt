use Rattle.std.proofs.Common.{◌∙◌, Ok, ap, length, refl}
use Rattle.std.proofs.lemmas.List.{length-map}
use Rattle.aig_reader.specs.Circuit.{Circuit}
use Rattle.aig_reader.specs.Reading.{circuit}
use Rattle.aig_pairs.specs.Matching.{same_names, other_outputs}
use Rattle.aig_pairs.proofs.Matched.{by_inputs, by_outputs, of_inputs, of_outputs}
use Rattle.aig_pairs.proofs.matching.match_circuit.Goals as goal

pub returns-in-None-2-clause-matched : goal.returns-in-None-2-clause-matched
returns-in-None-2-clause-matched c =
    let first = c.args.first.now in let second = c.args.second.now in
    let puts = (by_inputs first second c.in-Some.order).0 (rw c.in-Some.is at c.in_ok-order.ensures) in
    let none = rw c.in-None-2.is at c.in_ok-order-2.ensures in
    other_outputs c.in-Some.order puts (λ order others. none order ((by_outputs first second order).1 others)) refl

pub rearranged-requires-clause-inputs : goal.rearranged-requires-clause-inputs
rearranged-requires-clause-inputs c =
    let first = c.args.first.now in let second = c.args.second.now in
    let puts = (by_inputs first second c.in-Some.order).0 (rw c.in-Some.is at c.in_ok-order.ensures) in
    (of_inputs (circuit first) (circuit second) c.in-Some.order first.fits second.fits puts).0

pub rearranged-requires-clause-outputs : goal.rearranged-requires-clause-outputs
rearranged-requires-clause-outputs c =
    let first = c.args.first.now in let second = c.args.second.now in
    let outs = (by_outputs first second c.in-Some-2.order).0 (rw c.in-Some-2.is at c.in_ok-order-2.ensures) in
    (of_outputs (circuit first) (circuit second) c.in-Some-2.order first.fits second.fits outs).0

pub returns-clause-matched : goal.returns-clause-matched
returns-clause-matched c =
    let first = c.args.first.now in let second = c.args.second.now in
    let puts = (by_inputs first second c.in-Some.order).0 (rw c.in-Some.is at c.in_ok-order.ensures) in
    let outs = (by_outputs first second c.in-Some-2.order).0 (rw c.in-Some-2.is at c.in_ok-order-2.ensures) in
    same_names c.in-Some.order c.in-Some-2.order puts outs (ap Ok c.in_ok-rearranged.ensures)

pub returns-clause-inputs : goal.returns-clause-inputs
returns-clause-inputs c =
    let first = c.args.first.now in let second = c.args.second.now in
    let puts = (by_inputs first second c.in-Some.order).0 (rw c.in-Some.is at c.in_ok-order.ensures) in
    ap (λ (d : Circuit). d.inputs) c.in_ok-rearranged.ensures
    ∙ (of_inputs (circuit first) (circuit second) c.in-Some.order first.fits second.fits puts).1

pub returns-clause-outputs : goal.returns-clause-outputs
returns-clause-outputs c =
    let first = c.args.first.now in let second = c.args.second.now in
    let outs = (by_outputs first second c.in-Some-2.order).0 (rw c.in-Some-2.is at c.in_ok-order-2.ensures) in
    ap (λ (d : Circuit). length d.outputs) c.in_ok-rearranged.ensures ∙ length-map _ _
    ∙ (of_outputs (circuit first) (circuit second) c.in-Some-2.order first.fits second.fits outs).1
