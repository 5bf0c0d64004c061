pub mod Escaped
pub mod Printed
pub mod PrintedForm
pub mod Room
pub mod Written
pub use Rattle.devices.specs as devices
pub use Rattle.devices.specs.text_pos
