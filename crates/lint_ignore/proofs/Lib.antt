pub mod Cover
pub mod Growth
pub mod LineSets
pub mod Delimiters
pub mod Parts
pub mod Places
pub mod RuleNumbers
pub mod Silent
pub mod UnusedNames
pub mod Uses
pub use Rattle.sql_tree.proofs.of_sql_name
pub use Rattle.sql_tree.proofs as of_sql_tree
