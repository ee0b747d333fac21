pub mod Asked
mod CircuitFound
mod Worked
