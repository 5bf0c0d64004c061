pub mod Tables
pub mod Ordered
pub mod Found
pub mod Members
pub mod Leaving
