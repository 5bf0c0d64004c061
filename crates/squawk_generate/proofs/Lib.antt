pub mod Counting
pub mod MadeText
