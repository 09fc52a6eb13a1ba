pub mod Parts
pub mod Tallies
pub mod Seen
pub mod Answers
pub mod Placing
pub mod Requests
pub mod Made
pub mod GrantAll
