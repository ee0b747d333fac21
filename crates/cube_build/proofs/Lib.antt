mod CubeLemmas
mod CoverLemmas
mod BuiltCovers
mod BuiltSets
mod CareLemmas
mod UnitedCares
pub mod CareNeeds
