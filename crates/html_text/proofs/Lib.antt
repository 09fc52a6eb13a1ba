pub mod EscapedLemmas
pub mod NestingLemmas
