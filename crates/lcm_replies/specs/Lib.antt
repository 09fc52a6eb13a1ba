pub mod Failing
pub mod Hearing
pub mod Replies
pub mod Response
pub mod Telling
