pub mod OwnWords
pub mod Runs
pub mod Search
pub use Rattle.squawk_words.proofs as of_squawk_words
