pub mod Begins
pub mod Brackets
pub mod Cause
pub mod Cursor
pub mod First
pub mod Inside
pub mod Signs
pub mod Stack
pub mod Stop
pub mod View
pub use Rattle.sql_token.specs as sql_token
pub use Rattle.text_pos.specs as text_pos
