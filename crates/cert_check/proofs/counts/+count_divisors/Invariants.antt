use Rattle.cert_check.proofs.counts.+count_divisors.Given as goal

abbrev pub decreases-count_divisors : goal.decreases-count_divisors
decreases-count_divisors l = l.variables
