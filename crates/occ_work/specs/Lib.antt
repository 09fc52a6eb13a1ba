pub mod Requests
pub mod Deeds
pub mod Around
pub mod Acting
pub mod Attempting
pub mod Counting
pub mod Turns
pub mod Exchanges
