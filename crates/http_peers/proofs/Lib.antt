pub mod KeptLemmas
pub mod SentLemmas
pub mod TargetLemmas
