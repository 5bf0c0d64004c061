pub mod Found
pub mod Lines
pub mod Loaded
pub use Rattle.check_config.specs as check_config
pub use Rattle.check_config.specs.devices
pub use Rattle.report_lines.specs.source_file
pub use Rattle.check_config.specs.squawk_run
pub use Rattle.check_config.specs.squawk_words
