pub mod Levels
pub mod Calls
mod GivenPoints
mod Halving
mod HalvesLemmas
mod PairLemmas
mod Refusals
mod TermLemmas
