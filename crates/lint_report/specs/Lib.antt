pub mod Codes
pub mod FixClasses
pub use Rattle.hazard_base.specs as hazard_base
pub use Rattle.hazard_base.specs.lint_base
pub use Rattle.hazard_base.specs.text_pos
