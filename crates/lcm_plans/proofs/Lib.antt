pub mod AskedLaws
pub mod ChangeLaws
