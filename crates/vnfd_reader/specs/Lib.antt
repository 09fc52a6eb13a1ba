pub mod Answer
pub mod Counted
pub mod CountsSeen
pub mod Ordered
pub mod Steps
