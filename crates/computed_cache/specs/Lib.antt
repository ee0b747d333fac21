pub mod Looks
pub mod Cached
