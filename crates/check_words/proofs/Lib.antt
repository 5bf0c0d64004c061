mod Items
mod Walk
pub use Rattle.code_choice.proofs.of_squawk_run
