pub mod Files
pub mod Digests
pub mod Cutters
pub mod Laws
