pub mod ChosenWords
pub use Rattle.squawk_run.proofs as of_squawk_run
pub use Rattle.squawk_run.proofs.of_squawk_words
