pub mod AdmitLaws
pub mod SearchLaws
