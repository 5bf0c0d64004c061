mod Words
mod Refusals
