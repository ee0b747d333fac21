mod NumberLaws
mod ListLaws
mod Families
mod Cofactors
mod Values
mod Least
mod Examples
mod Standard
mod Results
mod Staircases
mod WordParts
mod Pointwise
mod WorkingSets
mod Tables
mod Paths
mod Histories
mod SoundTables
mod Ideals
pub mod Polynomials
pub mod Diagrams
