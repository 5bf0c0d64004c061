pub mod Causes
pub mod Spots
pub mod Report
pub mod Accepted
pub use Rattle.migration_gate.specs.law_clean
pub use Rattle.migration_gate.specs.lint_transaction
pub use Rattle.migration_gate.specs as migration_gate
pub use Rattle.migration_gate.specs.sql_read
pub use Rattle.migration_gate.specs.sql_token
pub use Rattle.migration_gate.specs.sql_tree
pub use Rattle.migration_gate.specs.squawk_linter
