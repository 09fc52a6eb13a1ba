pub mod Delivering
pub mod Dispatches
pub mod Faults
pub mod Laws
pub mod Lent
pub mod Preparing
pub mod Reading
pub mod Rounds
