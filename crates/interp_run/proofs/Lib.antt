mod OutputLists
mod Written
mod PhaseLists
mod TaskJobs
mod SolvedAnswers
mod GroupedElements
mod Due
mod Inhabited
