pub mod Fix
pub mod Equality
pub mod EqualityLaws
pub mod Json
pub mod Left
pub mod Reading
pub mod Answers
pub mod Putting
pub mod PlaceValue
pub mod MessageValue
pub use Rattle.lint_base.specs as lint_base
pub use Rattle.lint_base.specs.text_pos
pub use Rattle.text_utf16.specs as text_utf16
