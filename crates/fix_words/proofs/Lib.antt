pub mod Walk
pub use Rattle.refused_word.proofs.of_squawk_run
