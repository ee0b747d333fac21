pub mod Sums
pub mod Times
mod Keeps
mod Dealt
