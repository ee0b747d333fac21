pub mod Ends
pub mod Answers
pub mod Due
pub mod Duty
pub mod Laws
pub mod Parts
pub mod Phases
pub mod CoverJobs
