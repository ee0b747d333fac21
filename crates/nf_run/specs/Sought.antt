-- The families that are needed for what is sought on a table.
use Rattle.std.specs.Prelude.{List}
use Rattle.lattice.specs.Family.{Family}
use Rattle.pla_reader.specs.Reading.{Description}
use Rattle.nf_run.specs.Answers.{queries_list}
use Rattle.nf_run.specs.Joint.{first_phase_list, second_phase_list}
use Rattle.nf_run.specs.declared.plans.Sought.{Sought}
use Rattle.nf_run.specs.declared.plans.Sought.TheVariants.{Answers, Elements, Leads}

abbrev pub sought_list : Description → Sought → List Family
sought_list d (Answers queries) = queries_list d queries.now
sought_list d (Leads joining) = first_phase_list d joining
sought_list d (Elements joining) = second_phase_list d joining
