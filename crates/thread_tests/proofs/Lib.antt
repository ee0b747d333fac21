mod WorkedEvents
mod TestedStores
mod NotedJobs
