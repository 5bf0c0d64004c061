pub mod Tokens
pub mod Statements
pub mod Words
pub mod WordRules
pub mod Fixed
pub mod Detached
pub mod TimeoutFixes
pub mod DetachStays
