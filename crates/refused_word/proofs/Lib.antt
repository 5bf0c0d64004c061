pub use Rattle.check_words.proofs.of_squawk_run
pub use Rattle.shown_words.proofs.of_squawk_words
