pub mod Alone
pub mod Batches
pub mod Blocks
pub mod Branches
pub mod Progress
