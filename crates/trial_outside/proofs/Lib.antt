pub mod FindLemmas
pub mod GoingLemmas
pub mod TakenLemmas
