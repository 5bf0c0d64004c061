pub mod Failures
pub mod Settled
pub mod Command
pub mod Noted
pub use Rattle.fix_run.specs as fix_run
pub use Rattle.fix_run.specs.fix_words
pub use Rattle.config_file.specs.source_file
pub use Rattle.config_file.specs.squawk_words
