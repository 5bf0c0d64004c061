pub mod VolatilityLevels
pub mod ConstraintLaws
