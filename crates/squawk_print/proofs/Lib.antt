pub mod Escaping
pub mod Cuts
pub mod Edits
pub mod Reports
pub mod Vectors
pub mod Rooms
pub mod Pieces
pub mod Pushes
pub use Rattle.devices.proofs as of_devices
