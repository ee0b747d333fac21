use Rattle.std.proofs.Common.{[], ◌∷◌, refl}
use Rattle.lattice.proofs.Polynomials.{disjoint_from_test}
use Rattle.diagram_tests.proofs.of_interp_list.second_variable.Goals as goal

pub least_list-requires-clause-disjoint : goal.least_list-requires-clause-disjoint
least_list-requires-clause-disjoint g c = disjoint_from_test (0 ∷ []) (3 ∷ []) refl
