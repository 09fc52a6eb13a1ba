pub mod SizeLemmas
pub mod ValidLaws
