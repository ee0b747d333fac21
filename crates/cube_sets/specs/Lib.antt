pub mod Clashes
pub mod Buckets
