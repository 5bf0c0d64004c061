pub mod PrintedLocks
pub use Rattle.lock_machine.specs.lint_lock
pub use Rattle.squawk_print.specs as squawk_print
