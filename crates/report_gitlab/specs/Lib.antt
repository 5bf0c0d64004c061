pub mod Issues
pub use Rattle.json_value.specs as json_value
