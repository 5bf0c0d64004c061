pub mod Exchange
pub mod Edits
pub mod Beside
pub mod Terminals
