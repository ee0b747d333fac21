pub mod OnesLemmas
mod Families
mod NodeLemmas
mod Steps
mod Halving
