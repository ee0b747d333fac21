mod Recursion
mod PointSteps
mod LeastStep
pub mod InterpolationNeeds
