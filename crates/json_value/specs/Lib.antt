pub mod Values
pub use Rattle.source_file.specs as source_file
