pub mod Views
pub mod Texts
pub mod Subjects
pub mod Due
pub mod Duty
pub mod Ends
pub mod Parts
pub mod Laws
