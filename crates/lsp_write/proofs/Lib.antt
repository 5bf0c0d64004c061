mod Put
mod Fits
mod Shape
