pub mod Ignore
pub mod Notes
pub mod Places
pub mod Shown
pub mod Tokens
pub use Rattle.lsp_session.specs as lsp_session
pub use Rattle.source_file.specs as source_file
pub use Rattle.lsp_session.specs.text_utf16
