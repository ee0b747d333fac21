pub mod Miter
pub mod Laws
