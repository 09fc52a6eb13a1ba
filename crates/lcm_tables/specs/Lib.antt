pub mod Asking
pub mod Notices
pub mod Tables
