mod Examples
pub mod Cuts
mod WordCuts
mod Numbers
mod Symbols
mod Fitting
mod DraftSteps
mod Whole
mod Orders
pub mod ArrangedInputs
