pub mod Named
pub mod Read
pub use Rattle.checked_file.specs as checked_file
pub use Rattle.file_choice.specs as file_choice
pub use Rattle.checked_file.specs.source_file
pub use Rattle.sql_files.specs.squawk_words
