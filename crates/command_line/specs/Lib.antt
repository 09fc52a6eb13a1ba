pub mod Found
pub mod Words
