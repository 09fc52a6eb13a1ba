pub mod DiskLemmas
mod RoundLemmas
mod RunLemmas
pub mod ToldLemmas
mod TotalLemmas
