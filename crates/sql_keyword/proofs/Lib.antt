mod Below
mod Entries
mod Found
mod Listed
mod Fours
mod Letters
mod Right
