pub mod DropLaws
pub mod NotNullLaws
pub mod RobustLaws
