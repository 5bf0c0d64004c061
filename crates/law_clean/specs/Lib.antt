pub mod Clean
pub mod Laws
pub mod Validations
pub use Rattle.lock_machine.specs as lock_machine
