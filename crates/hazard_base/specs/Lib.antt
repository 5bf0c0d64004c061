pub mod Hazards
pub mod HazardSets
pub use Rattle.lint_base.specs as lint_base
pub use Rattle.lint_base.specs.text_pos
