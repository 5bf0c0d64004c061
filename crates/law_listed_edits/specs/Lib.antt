pub mod OneEdit
pub use Rattle.law_answers.specs as law_answers
