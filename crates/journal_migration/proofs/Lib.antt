pub mod OnceLemmas
pub mod PackLemmas
pub mod ReadLemmas
pub mod WriteLemmas
