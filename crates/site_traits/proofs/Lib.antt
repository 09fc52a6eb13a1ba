pub mod ClockLemmas
mod ConnLemmas
pub mod DiskLemmas
mod DoorLemmas
pub mod KeptLemmas
pub mod LogLemmas
pub mod PastLemmas
mod PeerLemmas
pub mod Writes
