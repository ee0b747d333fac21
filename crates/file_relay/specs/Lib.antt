pub mod Messages
pub mod Relayed
pub mod Reading
