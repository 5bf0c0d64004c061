pub mod Backslashes
pub mod Going
pub mod Places
pub mod Placing
pub mod Ranges
pub mod Reading
pub use Rattle.check_run.proofs as of_check_run
