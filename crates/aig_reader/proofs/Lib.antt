mod Numbers
mod Loops
mod Adding
mod Circuits
mod Placing
mod Walks
mod Ordering
mod Readings
pub mod Values
mod Writing
mod Renaming
