pub use Rattle.squawk_words.proofs as of_squawk_words
