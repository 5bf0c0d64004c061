pub mod Views
pub mod Missing
pub use Rattle.sql_mark.specs as sql_mark
