pub mod Lines
pub mod Links
pub mod Rests
pub mod Sent
