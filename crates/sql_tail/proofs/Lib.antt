pub mod NextPaths
