mod ListenLemmas
pub mod TellLemmas
