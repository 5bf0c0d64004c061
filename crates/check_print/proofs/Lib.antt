mod Pushing
pub use Rattle.hazard_base.proofs as of_hazard_base
