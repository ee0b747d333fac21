pub mod Stores
pub mod Plain
pub mod PlainLaws
pub mod PlainOf
pub mod PackedNodes
pub mod AnyFamily
