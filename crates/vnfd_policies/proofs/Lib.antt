pub mod ListLaws
pub mod ValidLaws
pub mod LevelLaws
pub mod SortedLaws
pub mod StepLaws
pub mod ValidPolicies
