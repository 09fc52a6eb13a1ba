pub mod Laws
pub mod Migrating
pub mod Packing
pub mod Reading
pub mod Writing
