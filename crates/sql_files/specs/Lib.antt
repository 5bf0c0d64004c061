pub mod Named
pub use Rattle.devices.specs as devices
pub use Rattle.squawk_words.specs as squawk_words
