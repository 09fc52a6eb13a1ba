pub mod Ident
pub mod Moment
pub mod Text
