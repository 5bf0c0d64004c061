pub mod Places
pub mod ForPsql
pub mod Fixes
