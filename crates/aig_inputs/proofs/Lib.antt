mod Positions
mod Naming
mod Points
pub mod ArrangedCircuits
