pub mod Names
pub mod Steps
pub mod Asked
pub use Rattle.code_choice.specs as code_choice
pub use Rattle.code_choice.specs.devices
pub use Rattle.help_words.specs as help_words
pub use Rattle.code_choice.specs.squawk_run
