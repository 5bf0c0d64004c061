mod Deciding
mod Rows
