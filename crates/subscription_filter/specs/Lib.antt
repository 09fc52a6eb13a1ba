pub mod Asked
pub mod Facts
pub mod Parts
pub mod Sorted
