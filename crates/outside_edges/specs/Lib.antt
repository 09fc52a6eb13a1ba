pub mod Again
pub mod Clock
pub mod Door
pub mod Faults
pub mod Having
pub mod Jobs
pub mod Site
pub mod Standing
