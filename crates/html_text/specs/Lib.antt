pub mod Escaped
pub mod Html
pub mod Nesting
