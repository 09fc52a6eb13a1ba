pub mod FilterLemmas
pub mod SizeLemmas
