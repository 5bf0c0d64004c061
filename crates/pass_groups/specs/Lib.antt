pub mod OwnTable
pub use Rattle.pass_client.specs as pass_client
pub use Rattle.pass_concurrent.specs as pass_concurrent
pub use Rattle.pass_constraint.specs as pass_constraint
pub use Rattle.pass_data_type.specs as pass_data_type
pub use Rattle.pass_drop.specs as pass_drop
pub use Rattle.pass_history.specs as pass_history
pub use Rattle.pass_name.specs as pass_name
