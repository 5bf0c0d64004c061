pub mod Lines
pub mod Script
pub mod Context
pub mod Unified
pub mod Patch
