mod Examples
mod Marked
mod LinesRead
mod RightAnswers
mod Points
pub mod Verdicts
