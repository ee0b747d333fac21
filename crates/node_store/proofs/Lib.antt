mod PlainLemmas
pub mod StoreLaws
