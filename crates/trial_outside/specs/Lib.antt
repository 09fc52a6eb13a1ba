pub mod Going
pub mod Granted
pub mod Planned
pub mod Taken
pub mod TrialOrchestrator
pub mod TrialSite
