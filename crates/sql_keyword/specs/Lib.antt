pub mod Same
pub mod Texts
pub mod Letters
pub mod Slots
pub mod Find
