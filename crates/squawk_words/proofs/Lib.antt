pub mod Each
pub mod Ends
pub mod Lookup
pub mod Numbers
pub mod Places
mod Signs
pub mod Walks
