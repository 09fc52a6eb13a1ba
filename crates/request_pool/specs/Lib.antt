pub mod Fronts
pub mod Gateway
pub mod Clients
pub mod Hands
pub mod Pools
