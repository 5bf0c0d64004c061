pub mod FullText
pub mod Cuts
pub mod Uses
pub mod Compared
