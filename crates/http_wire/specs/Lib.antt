pub mod Intake
pub mod Wire
pub mod Exact
