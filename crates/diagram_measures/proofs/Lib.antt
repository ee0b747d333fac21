mod MeasureLemmas
mod MetLemmas
mod LeastLemmas
pub mod LeastMembers
