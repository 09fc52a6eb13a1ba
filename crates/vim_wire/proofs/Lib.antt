pub mod FieldLaws
pub mod LengthLaws
pub mod LineLaws
pub mod NameLaws
pub mod PartLaws
pub mod SameLaws
