pub mod Same
pub mod Parts
pub mod Altered
pub mod ColumnTypes
pub mod Plain
pub mod TypesLeft
