pub mod LastVariables
pub mod NotedJobs
