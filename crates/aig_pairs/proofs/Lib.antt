mod Parts
mod Naming
mod Matched
pub mod PairLaws
