mod Noting
mod Reported
