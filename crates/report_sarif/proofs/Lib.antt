pub mod Edits
pub mod NoFloats
