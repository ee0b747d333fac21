mod BuiltLemmas
mod GateLemmas
mod StepCalls
mod StepLemmas
pub mod GateValues
