mod Placing
mod Linted
