pub mod Answer
pub mod Bits
pub mod CommentBytes
pub mod Firsts
pub mod Insides
pub mod LineRuns
pub mod Plain
pub mod SignLaws
pub mod Stacks
pub mod Tables
pub mod Walk
pub use Rattle.sql_token.proofs as of_sql_token
