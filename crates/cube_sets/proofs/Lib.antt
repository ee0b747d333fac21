mod SharedPoints
mod Pairs
mod Search
mod Consistent
mod Marks
pub mod OneClash
