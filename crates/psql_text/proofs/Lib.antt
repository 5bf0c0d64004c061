pub mod Blanks
pub mod Going
pub mod LineEnds
pub mod Once
pub mod Places
pub mod Plain
pub mod Steps
pub mod Words
