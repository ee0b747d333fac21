use Rattle.lattice.specs.Words.{basis_element_of, basis_element_list}
use Rattle.lattice.proofs.Diagrams.{covers_head}
use Rattle.interp_run.proofs.TaskJobs.{more_given, more_lead, more_planned}
use Rattle.interp_run.proofs.tasks.find_element.Goals as goal

pub union-requires-clause-planned : goal.union-requires-clause-planned
union-requires-clause-planned g c = covers_head _ _ _ _ c.requires.planned

pub basis_element-requires-clause-lead : goal.basis_element-requires-clause-lead
basis_element-requires-clause-lead g c = more_lead c.in_ok-points.ensures.result c.requires.lead

pub basis_element-requires-clause-planned : goal.basis_element-requires-clause-planned
basis_element-requires-clause-planned g c =
    more_planned (λ n. basis_element_list n c.args.lead) c.in_ok-points.ensures.result c.requires.planned

pub returns-clause-gives : goal.returns-clause-gives
returns-clause-gives g c =
    more_given (λ n. basis_element_list n c.args.lead) c.in_ok-points.ensures.result (λ n. basis_element_of n c.args.lead)
    c.basis_element.ensures.gives
