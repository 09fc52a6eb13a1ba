pub mod Account
pub mod Mouth
pub mod Waiting
pub mod World
