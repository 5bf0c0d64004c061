pub mod Steps
pub mod Asked
pub mod Faults
pub use Rattle.refused_word.specs.code_choice
pub use Rattle.refused_word.specs.report_lines
pub use Rattle.refused_word.specs.squawk_run
