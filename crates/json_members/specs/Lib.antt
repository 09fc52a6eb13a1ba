pub mod Members
pub mod Problem
pub mod Text
