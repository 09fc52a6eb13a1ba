pub mod Items
pub mod Following
