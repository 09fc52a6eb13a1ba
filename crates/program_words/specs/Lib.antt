pub mod Lines
pub mod Pages
pub mod Reasons
pub mod Wrong
