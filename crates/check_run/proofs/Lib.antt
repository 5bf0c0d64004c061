mod Lists
pub mod Moved
