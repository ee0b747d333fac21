mod Lists
mod Found
mod PointSteps
mod AnswerSteps
mod CareLaws
mod ElementSteps
mod Limits
mod Listing
mod MeasureSteps
mod OneLaws
mod OneSteps
pub mod Solutions
