pub mod OpenLaws
pub mod SourceLaws
