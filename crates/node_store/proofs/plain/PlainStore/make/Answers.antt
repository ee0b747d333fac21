use Rattle.std.proofs.Common.{arith}
use Rattle.std.proofs.lemmas.List.{nil_from_length}
use Rattle.lattice.proofs.Diagrams.{shifted_one, slots_most}
use Rattle.node_store.proofs.PlainLemmas.{nothing_yet}
use Rattle.node_store.proofs.plain.PlainStore.make.Goals as goal

pub invariant_of-result-clause-table : goal.invariant_of-result-clause-table
invariant_of-result-clause-table c = nothing_yet _ _ _ c.in_ok-nodes.nodes.keys (nil_from_length _ c.in_ok-nodes.ensures.len)

pub invariant_of-result-clause-sizes : goal.invariant_of-result-clause-sizes
invariant_of-result-clause-sizes c = omega (arith, shifted_one c.args.bits c.requires.bits.1, slots_most c.args.bits c.requires.bits.1)

pub invariant_of-result-clause-results : goal.invariant_of-result-clause-results
invariant_of-result-clause-results c = rw (nil_from_length c.in_ok-kept.kept.entries c.in_ok-kept.ensures.len) (λ i e at. cc)
