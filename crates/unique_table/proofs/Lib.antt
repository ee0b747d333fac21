mod Lists
mod Fitting
mod Parts
mod SoundRule
mod Steps
mod Calls
pub mod PassNeeds
