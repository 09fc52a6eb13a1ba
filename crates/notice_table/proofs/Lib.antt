pub mod Lists
pub mod MarkLaws
pub mod RowLaws
pub mod WaitLaws
pub mod TableLaws
