pub mod Items
pub mod Utf8
pub use Rattle.lsp_session.proofs as of_lsp_session
