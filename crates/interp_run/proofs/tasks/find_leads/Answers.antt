use Rattle.lattice.specs.Words.{leads_of, standard_of}
use Rattle.lattice.proofs.Diagrams.{covers_head}
use Rattle.std_monomials.specs.PointLeads.{point_leads_list}
use Rattle.interp_run.proofs.TaskJobs.{more_given, more_planned}
use Rattle.interp_run.proofs.tasks.find_leads.Goals as goal

pub union-requires-clause-planned : goal.union-requires-clause-planned
union-requires-clause-planned g c = covers_head _ _ _ _ c.requires.planned

pub leads_of_points-requires-clause-planned : goal.leads_of_points-requires-clause-planned
leads_of_points-requires-clause-planned g c = more_planned point_leads_list c.in_ok-points.ensures.result c.requires.planned

pub returns-clause-gives : goal.returns-clause-gives
returns-clause-gives g c =
    more_given point_leads_list c.in_ok-points.ensures.result (λ n f. leads_of n (standard_of n f)) c.leads_of_points.ensures
