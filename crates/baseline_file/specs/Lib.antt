pub mod Leaving
pub mod Loaded
pub use Rattle.check_baseline.specs as check_baseline
pub use Rattle.config_file.specs.check_config
pub use Rattle.check_run.specs.check_words
pub use Rattle.config_file.specs as config_file
pub use Rattle.check_run.specs.devices
pub use Rattle.check_run.specs.squawk_words
