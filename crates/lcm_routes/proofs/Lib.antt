pub mod TargetLemmas
pub mod FindLemmas
pub mod TableLemmas
