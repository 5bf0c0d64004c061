pub mod Views
pub use Rattle.sql_form.specs as sql_form
pub use Rattle.sql_form.specs.sql_mark
