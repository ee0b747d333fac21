use Rattle.diagram_tests.proofs.of_node_store.+all_over.Given as goal

abbrev pub decreases-all_over : goal.decreases-all_over
decreases-all_over g l = l.count
