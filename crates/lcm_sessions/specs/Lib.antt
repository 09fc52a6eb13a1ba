pub mod Doing
pub mod Judging
pub mod Onboarding
pub mod Session
pub mod Step
pub mod Talking
pub mod Verdict
