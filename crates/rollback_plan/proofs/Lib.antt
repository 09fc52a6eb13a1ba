pub mod NetLaws
