pub mod TextLaws
mod Utf8Lemmas
