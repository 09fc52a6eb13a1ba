pub mod Gone
pub mod Kept
pub mod Peers
pub mod Sent
pub mod Targets
