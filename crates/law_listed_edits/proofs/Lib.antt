mod TypesBehind
mod Edits
