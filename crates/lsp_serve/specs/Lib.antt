pub mod Frame
pub mod Reading
pub mod ReadsBack
pub mod Ends
pub mod Said
pub mod Served
pub mod Turns
pub use Rattle.lsp_read.specs.lsp_session
