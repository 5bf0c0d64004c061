pub mod PartLaws
pub mod Holding
