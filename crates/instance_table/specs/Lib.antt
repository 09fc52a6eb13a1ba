pub mod Rows
pub mod Steps
pub mod Table
pub mod Deliveries
pub mod Standing
