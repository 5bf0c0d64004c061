pub mod Differences
pub mod Writing
pub use Rattle.devices.specs as devices
pub use Rattle.other_fix.specs.lint_base
pub use Rattle.other_fix.specs as other_fix
