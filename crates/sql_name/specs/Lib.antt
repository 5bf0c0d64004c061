pub mod Name
pub mod FullBytes
pub mod Cut
pub mod Hash
pub mod Compared
pub use Rattle.text_pos.specs as text_pos
