pub mod Orders
pub mod ListLaws
pub mod EffectLaws
pub mod PowerLaws
pub mod ItemLaws
pub mod Places
pub mod PlaceLaws
pub mod ChangeLaws
