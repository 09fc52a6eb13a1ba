pub mod ReplyLemmas
pub mod SentLemmas
