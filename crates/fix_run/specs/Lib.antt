pub mod Inputs
pub mod Outcomes
pub mod Stops
pub mod Giving
pub mod Runs
pub use Rattle.gate_files.specs.checked_file
pub use Rattle.fix_words.specs.code_choice
pub use Rattle.fix_words.specs as fix_words
