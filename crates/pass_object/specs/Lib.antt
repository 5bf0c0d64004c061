pub mod ChangeLaws
pub mod Changes
pub mod ExistingObjectCompatibility
pub mod KnownObjects
pub mod Rows
pub mod Words
