pub mod Messages
pub mod Files
mod Relays
