pub mod MarkLaws
pub mod Marks
pub mod Starts
