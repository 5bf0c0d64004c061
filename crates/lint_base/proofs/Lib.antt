pub mod Among
pub mod OfRules
pub mod RuleChoice
pub mod RuleFacts
pub mod RuleNames
pub mod RuleSets
pub mod RuleSlots
