pub mod Active
pub mod Steps
