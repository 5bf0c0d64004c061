pub mod SetUp
pub use Rattle.baseline_file.specs as baseline_file
pub use Rattle.baseline_file.specs.check_baseline
pub use Rattle.baseline_file.specs.check_config
pub use Rattle.baseline_file.specs.config_file
