mod Joined
pub mod Miters
