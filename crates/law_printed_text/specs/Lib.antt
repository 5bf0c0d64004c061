pub mod Unique
pub use Rattle.law_printed_lines.specs as law_printed_lines
