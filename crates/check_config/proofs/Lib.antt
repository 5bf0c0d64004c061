mod TextSteps
mod Finds
mod Keys
mod Places
mod Refusals
mod Joins
mod Versions
