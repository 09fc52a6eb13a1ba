pub mod Made
pub mod Notice
pub mod Words
pub mod Worked
