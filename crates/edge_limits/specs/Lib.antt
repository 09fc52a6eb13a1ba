pub mod Waits
pub mod Paces
