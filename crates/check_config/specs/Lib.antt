pub mod Config
pub mod Readings
pub mod Faults
pub mod Defaults
pub use Rattle.squawk_run.specs.devices
pub use Rattle.squawk_run.specs as squawk_run
pub use Rattle.squawk_run.specs.squawk_words
