pub mod CleanLaws
pub mod ColumnWork
pub mod Nothing
pub mod Silence
pub mod StatementWork
pub mod SteadyWithoutArrays
pub mod ValidationLaws
pub use Rattle.lock_machine.proofs as of_lock_machine
