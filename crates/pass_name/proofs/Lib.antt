pub mod NameCuts
pub mod LongTokens
pub mod NameLaws
pub mod Gathered
pub mod EntryLaws
pub mod GatherLaws
pub mod ReportLaws
