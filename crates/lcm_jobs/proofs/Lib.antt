mod BesideLemmas
pub mod Endings
mod IdleLemmas
pub mod KeepLemmas
mod OnLemmas
pub mod Parts
mod SoundLemmas
mod TurnLemmas
mod WayLemmas
mod WorkLemmas
