pub mod TokenLaws
pub mod CommentLaws
pub mod QuoteLaws
pub mod Reread
pub mod Ahead
pub mod Boundaries
pub mod Chunks
pub mod Statements
