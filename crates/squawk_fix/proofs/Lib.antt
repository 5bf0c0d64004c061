mod Pending
mod Plain
mod Rounds
mod Runs
mod Stages
mod Answered
mod Complete
