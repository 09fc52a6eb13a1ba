pub mod Acts
pub mod Tags
pub mod Inventories
pub mod Records
pub mod Planning
pub mod Rolls
pub mod Free
