pub mod ActiveLemmas
mod RiseLemmas
pub mod StepLemmas
