mod Steps
mod PointLeads
pub mod MonomialNeeds
