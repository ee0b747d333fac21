pub mod Machines
pub mod Seats
pub mod Events
pub mod Soundness
