pub mod IdentLemmas
pub mod NameLemmas
pub mod TextTests
