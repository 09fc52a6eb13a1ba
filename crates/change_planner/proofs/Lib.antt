mod ActLaws
pub mod NetLaws
pub mod TagLaws
pub mod InventoryLaws
pub mod OrderLaws
pub mod RollLaws
pub mod SearchLaws
pub mod RangeLaws
pub mod SectionLaws
pub mod PlanLaws
pub mod SizeLaws
mod RecordLaws
pub mod FitLaws
pub mod SpanLaws
pub mod StepLaws
pub mod FreeLaws
