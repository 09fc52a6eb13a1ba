pub mod StepLaws
pub mod Valid
pub mod ValidLaws
