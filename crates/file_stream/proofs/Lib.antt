mod Begun
pub mod Cuts
mod Digests
mod Joined
mod Keeping
mod Kept
mod Words
