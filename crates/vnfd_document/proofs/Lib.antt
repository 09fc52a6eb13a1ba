pub mod CheckLaws
mod DocumentLemmas
pub mod NameLemmas
pub mod NameOrder
pub mod OrderLemmas
mod SortLemmas
