pub mod Place
pub mod Params
pub mod PartValue
pub mod Root
pub mod Method
pub mod Message
pub use Rattle.lsp_session.specs as lsp_session
