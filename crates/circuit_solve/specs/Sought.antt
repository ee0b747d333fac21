-- The families that are needed for what is sought on a table.
use Rattle.std.specs.Prelude.{ℕ, List, Option}
use Rattle.lattice.specs.Family.{Family}
use Rattle.aig_reader.specs.Circuit.{Circuit}
use Rattle.circuit_solve.specs.Answers.{answers_list}
use Rattle.circuit_solve.specs.Ones.{one_list}
use Rattle.circuit_solve.specs.Solved.{first_phase_list, second_phase_list}
use Rattle.circuit_solve.specs.declared.plans.Sought.{Sought}
use Rattle.circuit_solve.specs.declared.plans.Sought.TheVariants.{Answers, Elements, Leads, LeastOnes}

abbrev pub sought_list : Circuit → (care : Option ℕ) → Sought → List Family
sought_list c care Answers = answers_list c care
sought_list c care Leads = first_phase_list c care
sought_list c care Elements = second_phase_list c care
sought_list c care LeastOnes = one_list c care
