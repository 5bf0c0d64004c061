pub mod Lining
pub mod Sides
pub mod Contexts
pub mod Patching
