pub mod Paths
pub mod Table
pub mod Targets
