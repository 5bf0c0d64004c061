pub mod Later
mod Refusals
