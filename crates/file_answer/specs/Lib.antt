pub mod Answers
pub mod Backslash
pub mod Faults
pub mod Found
pub mod Joined
pub mod Reading
pub use Rattle.check_run.specs as check_run
pub use Rattle.law_reports.specs as law_reports
