pub mod HazardNames
pub mod Sets
