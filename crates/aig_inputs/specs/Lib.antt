pub mod Arranged
pub mod Names
pub mod Laws
