pub mod Stops
pub mod Statuses
pub mod Ends
pub mod Lines
pub mod ForeignWords
pub mod TextChoices
pub mod Laws
pub use Rattle.devices.specs as devices
pub use Rattle.squawk_words.specs.lint_base
pub use Rattle.squawk_words.specs as squawk_words
