mod Streams
pub mod Written
pub mod Endings
