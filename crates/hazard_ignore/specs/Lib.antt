pub mod Covered
pub mod HazardNames
pub mod Laws
