pub mod BuildLaws
pub mod Concurrently
pub mod ConcurrentlyLaws
pub mod RequireConcurrentIndexCreation
pub mod RequireConcurrentIndexDeletion
pub mod RequireConcurrentIndexDeletionLaws
pub mod RequireConcurrentPartitionDetach
pub mod RequireConcurrentPartitionDetachLaws
pub mod RequireConcurrentReindex
pub mod RequireConcurrentReindexLaws
pub use Rattle.lint_pass.specs.lint_base
pub use Rattle.lint_pass.specs.lint_node
pub use Rattle.lint_pass.specs as lint_pass
pub use Rattle.lint_pass.specs.lint_transaction
pub use Rattle.lint_pass.specs.sql_name
pub use Rattle.lint_pass.specs.text_pos
