mod Kept
pub mod LeftAfter
