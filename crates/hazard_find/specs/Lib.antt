pub mod Columns
pub mod Earlier
pub mod Findings
pub mod Guards
pub mod Here
pub mod Laws
pub mod Look
pub mod Refused
pub mod Rewrites
pub mod Shown
pub mod Timeouts
pub mod Walk
pub use Rattle.hazard_base.specs as hazard_base
pub use Rattle.hazard_base.specs.lint_base
pub use Rattle.lint_ignore.specs as lint_ignore
pub use Rattle.lint_node.specs as lint_node
pub use Rattle.lint_transaction.specs as lint_transaction
