pub mod Edited
pub mod Moved
pub mod Mended
pub mod Stays
pub mod Timeouts
pub use Rattle.pass_session.specs.lint_lock
pub use Rattle.pass_concurrent.specs as pass_concurrent
pub use Rattle.pass_session.specs as pass_session
