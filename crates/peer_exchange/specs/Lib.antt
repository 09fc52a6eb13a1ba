pub mod Exchanges
pub mod GoingOn
