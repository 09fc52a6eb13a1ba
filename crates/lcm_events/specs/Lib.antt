pub mod Descriptors
pub mod Same
