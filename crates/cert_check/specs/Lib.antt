pub mod Reading
pub mod Right
pub mod Faults
pub mod Marks
pub mod Parts
pub mod Causes
