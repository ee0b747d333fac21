pub mod Polynomials
pub mod Steps
pub mod Laws
pub mod Built
