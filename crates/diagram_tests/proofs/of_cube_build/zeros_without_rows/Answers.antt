use Rattle.lattice.specs.Words.{care_list}
use Rattle.lattice.proofs.Diagrams.{covers_left}
use Rattle.diagram_tests.proofs.of_cube_build.zeros_without_rows.Goals as goal

pub zeros-requires-clause-planned : goal.zeros-requires-clause-planned
zeros-requires-clause-planned c =
    let p = c.in_ok-p.p in
    rw c.in_ok-store.ensures.plan (covers_left p.inputs _ (care_list p.inputs p.kind p.rows 1) _ (λ f i. i))
