pub mod Answers
pub mod Leaves
pub use Rattle.squawk_linter.specs.sql_read
pub use Rattle.squawk_linter.specs as squawk_linter
