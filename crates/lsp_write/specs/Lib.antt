pub mod Diagnostic
pub mod Action
pub mod Fence
pub mod Hover
pub mod Response
pub mod Reply
