pub mod Monomials
pub mod PointLeads
