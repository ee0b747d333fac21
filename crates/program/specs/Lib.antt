pub mod Outcomes
pub mod Duties
pub mod Pages
pub mod Runs
pub mod Descriptions
pub mod Examples
