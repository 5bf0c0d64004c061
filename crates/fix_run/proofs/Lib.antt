pub mod Placing
pub mod Coming
pub mod Lists
pub mod Giving
pub mod Moved
