pub mod Laws
pub mod Machine
pub mod MachineWalk
pub mod Plain
pub mod Steady
pub mod Works
pub use Rattle.lint_pass.specs.lint_base
pub use Rattle.lint_lock.specs as lint_lock
pub use Rattle.lint_pass.specs.lint_node
pub use Rattle.lint_pass.specs as lint_pass
pub use Rattle.lint_pass.specs.lint_transaction
pub use Rattle.lint_pass.specs.sql_token
pub use Rattle.sql_tree.specs as sql_tree
pub use Rattle.lint_pass.specs.text_pos
