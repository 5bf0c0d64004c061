mod Walk
mod Opening
mod Judging
mod Listing
mod Ending
mod Moving
