pub mod Allowed
pub mod Others
pub mod Fixing
pub use Rattle.other_fix.specs as other_fix
pub use Rattle.law_next_fix.specs.sql_read
pub use Rattle.fix_class.specs.sql_token
pub use Rattle.fix_class.specs.sql_tree
pub use Rattle.law_next_fix.specs.squawk_linter
pub use Rattle.fix_class.specs as fix_class
