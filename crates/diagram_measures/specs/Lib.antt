pub mod Measured
pub mod Met
pub mod Laws
