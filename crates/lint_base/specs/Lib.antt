pub mod EditLaws
pub mod Edits
pub mod Fixes
pub mod Grown
pub mod GrownLaws
pub mod PlainBytes
pub mod RuleChoice
pub mod RuleFacts
pub mod RuleNames
pub mod RuleSets
pub mod RuleSlots
pub mod Rules
pub mod Settings
pub mod TextBytes
pub mod Violations
pub use Rattle.text_pos.specs as text_pos
