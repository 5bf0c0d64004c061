pub mod Complete
pub mod Groups
pub mod Inputs
pub mod HeadlineOfRun
pub mod CleanOfRun
pub mod MadeRuns
pub mod Fitting
