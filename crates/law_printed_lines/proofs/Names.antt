-- The names of rules, hazards and refusals have small letters, digits and hyphens.
use Rattle.std.proofs.Common.{◌≡◌, ◌∙◌, ℕ, Bool, true, false, ◌&&◌, ◌||◌, List, [], ◌∷◌, All, ap, refl, sym}
use Rattle.std.proofs.lemmas.Bool.{and_parts, both_ways}
use Rattle.std.proofs.lemmas.List.Elements.{All-cons, All-nil}
use Rattle.std.specs.List.{list_all}
use Rattle.std.specs.Prelude.{◌==◌, nat_le}
use Rattle.check_print.specs.hazard_base.declared.hazard.Hazard.{Hazard}
use Rattle.check_print.specs.hazard_base.declared.hazard.Hazard.TheVariants as hazard
use Rattle.check_print.specs.hazard_base.Hazards as hazards
use Rattle.check_print.specs.lint_base.declared.rule.Rule.{Rule}
use Rattle.check_print.specs.lint_base.declared.rule.Rule.TheVariants as rule
use Rattle.check_print.specs.lint_base.Rules as rules
use Rattle.check_print.specs.lint_report.declared.code.Code.{Code}
use Rattle.check_print.specs.lint_report.declared.code.Code.TheVariants as code
use Rattle.check_print.specs.lint_report.Codes.{name_of}
use Rattle.check_print.specs.source_file.declared.refusal.Refusal.{Refusal}
use Rattle.check_print.specs.source_file.declared.refusal.Refusal.TheVariants as refusal
use Rattle.check_print.specs.source_file.Refusals as refusals

-- a byte of such a name
abbrev pub is_name_byte : ℕ → Bool
is_name_byte b = (nat_le 97 b && nat_le b 122) || (nat_le 48 b && nat_le b 57) || b == 45

abbrev pub is_name : List ℕ → Bool
is_name name = list_all is_name_byte name

rule_name : (r : Rule) → is_name (rules.name_of r) ≡ true
unfolding rules.facts_of
rule_name rule.UnusedIgnore = refl
rule_name r = refl

hazard_name : (h : Hazard) → is_name (hazards.name_of h) ≡ true
unfolding hazards.name_of
hazard_name hazard.JsonColumn = refl
hazard_name h = refl

pub code_name : (c : Code) → is_name (name_of c) ≡ true
code_name (code.Rule r) = rule_name r
code_name (code.Hazard h) = hazard_name h

pub refusal_name : (r : Refusal) → is_name (refusals.name_of r) ≡ true
refusal_name refusal.Missing = refl
refusal_name refusal.Unreadable = refl
refusal_name (refusal.NotUtf8 at) = refl
refusal_name refusal.TooLong = refl
refusal_name (refusal.Unterminated at) = refl
refusal_name (refusal.Syntax at) = refl

-- no other byte is in a name
pub name_free : (m : ℕ) (name : List ℕ) → is_name_byte m ≡ false → is_name name ≡ true → All (λ b. b ≡ m → ⊥) name
name_free m [] h e = All-nil (λ b. b ≡ m → ⊥)
name_free m (b ∷ name) h e =
    let parts = and_parts (is_name_byte b) (is_name name) e in
    All-cons (λ b. b ≡ m → ⊥) b name (λ f. both_ways _ h (ap is_name_byte (sym f) ∙ parts.0)) (name_free m name h parts.1)
