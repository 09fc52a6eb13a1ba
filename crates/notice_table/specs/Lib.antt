pub mod Holding
pub mod Marks
pub mod Packing
pub mod Queues
pub mod Rows
pub mod Steps
pub mod Table
