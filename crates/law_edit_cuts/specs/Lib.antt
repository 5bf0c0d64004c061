pub mod Runs
pub mod Exchanges
pub use Rattle.law_renumber.specs as law_renumber
pub use Rattle.law_renumber.specs.sql_keyword
pub use Rattle.law_renumber.specs.sql_token
pub use Rattle.law_renumber.specs.sql_tree
