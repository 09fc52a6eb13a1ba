pub mod Built
pub mod Nodes
pub mod Seen
pub mod Sizes
