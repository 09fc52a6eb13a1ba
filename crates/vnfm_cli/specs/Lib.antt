pub mod Causes
pub mod Deliveries
pub mod DoorFaults
pub mod Headline
pub mod Laws
pub mod Migration
pub mod Promises
pub mod Trial
