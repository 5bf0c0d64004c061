pub mod Exchange
pub use Rattle.psql_text.specs as psql_text
