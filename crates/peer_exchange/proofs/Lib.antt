pub mod GoingLaws
pub mod LostLaws
pub mod PieceLaws
pub mod SentLaws
