pub mod Chosen
pub mod Diagnosed
pub mod Written
pub mod Outcome
