pub mod Command
pub mod Choices
pub mod Words
pub use Rattle.lint_base.specs as lint_base
