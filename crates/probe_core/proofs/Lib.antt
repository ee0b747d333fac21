mod Places
mod Probing
mod KeptWords
mod EventLemmas
mod NodeLemmas
pub mod ProbedWords
