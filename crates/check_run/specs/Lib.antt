pub mod Checks
pub mod Inputs
pub mod Runs
pub use Rattle.check_words.specs as check_words
pub use Rattle.checked_file.specs as checked_file
pub use Rattle.check_words.specs.devices
pub use Rattle.checked_file.specs.source_file
pub use Rattle.sql_files.specs.squawk_words
pub use Rattle.checked_file.specs.text_pos
