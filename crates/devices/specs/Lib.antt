pub mod Faults
pub mod MemoryStreams
pub mod Parts
pub mod Reading
pub mod Contents
pub mod Refused
pub mod MemoryFiles
pub mod SqlNames
pub mod Writes
pub mod Held
pub use Rattle.text_pos.specs as text_pos
