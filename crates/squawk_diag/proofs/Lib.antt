mod Placing
mod Answered
mod Complete
