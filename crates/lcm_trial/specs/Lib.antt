pub mod Draws
pub mod Wishes
pub mod Requests
pub mod Stages
pub mod Beginning
pub mod Trial
pub mod Playing
