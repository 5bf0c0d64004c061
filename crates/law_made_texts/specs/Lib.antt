pub mod Valid
pub use Rattle.squawk_generate.specs as squawk_generate
