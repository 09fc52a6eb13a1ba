pub mod ResponseLaws
pub mod ReadingLaws
pub mod LineLaws
