pub mod Halves
pub mod Pairs
pub mod GivenPoints
pub mod ReadyStores
pub mod Begins
pub mod Terms
pub mod Refusals
