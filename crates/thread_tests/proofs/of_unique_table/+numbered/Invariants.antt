use Rattle.thread_tests.proofs.of_unique_table.+numbered.Given as goal

abbrev pub decreases-numbered : goal.decreases-numbered
decreases-numbered g l = l.count
