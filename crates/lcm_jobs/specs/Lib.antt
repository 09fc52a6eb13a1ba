pub mod Alternating
pub mod Backing
pub mod Beside
pub mod Idle
pub mod Keeping
pub mod Sound
pub mod Standing
