pub mod Connections
pub mod Network
pub mod Parked
