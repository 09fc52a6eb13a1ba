mod TokenLaws
pub mod IntakeLaws
pub mod TakeLaws
pub mod ExactLaws
