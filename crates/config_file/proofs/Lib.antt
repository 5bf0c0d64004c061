mod Refusals
mod Upwards
