-- Entries of single passes stand in their tables.
use Rattle.std.proofs.Common.{◌≡◌, ◌∙◌, Bool, true, false, List, [], ◌∷◌, inl, inr, ap, sym, subst, IfSome}
use Rattle.std.proofs.lemmas.Bool.{and_parts, cases_eq, false≢true, not-true, or_cases}
use Rattle.std.proofs.lemmas.List.Elements.{All-contains, All-contains_itself, All-weaker}
use Rattle.std.specs.List.{list_all}
use Rattle.std.specs.Prelude.{not, All, Contains}
use Rattle.law_type_fixes.specs.sql_tree.Statement.{Tree}
use Rattle.law_type_fixes.specs.lint_base.declared.rule.Rule.{Rule}
use Rattle.law_type_fixes.specs.lint_base.declared.rule.Rule.TheVariants as rule
use Rattle.law_type_fixes.specs.lint_base.declared.settings.LinterSettings.{LinterSettings}
use Rattle.law_type_fixes.specs.lint_base.declared.violation.Violation.{Violation}
use Rattle.law_type_fixes.specs.lint_base.Rules.{number_of}
use Rattle.law_type_fixes.specs.lint_base.RuleSets.{Rules, has, no_rules, with_rule}
use Rattle.law_type_fixes.proofs.of_lint_base.RuleSets.{has-both_rules, has-no_rules, has-with_rule_other, rule_from_number}
use Rattle.law_type_fixes.specs.lint_pass.Laws.{IsOf}
use Rattle.law_type_fixes.specs.pass_session.RequireTimeoutSettings.{timeout_rules}
use Rattle.law_type_fixes.specs.law_fixes.Mended.{Table}
use Rattle.law_answers.specs.Tables.{AllAreInTheirTables, IsCoded, IsInItsTable, has_none, mended_rules, mended_table, timeouts}

contrary : (b : Bool) → b ≡ false → b ≡ true → ⊥
contrary b e f = false≢true (sym e ∙ f)

-- ---- passes of other rules

abbrev Lacks : Rules → List Rule → Type 0
Lacks own [] = Unit {0}
Lacks own (r ∷ rs) = (has own r ≡ false) × Lacks own rs

lacks_so : (own : Rules) (rs : List Rule) → list_all (λ r. not (has own r)) rs ≡ true → Lacks own rs
lacks_so own [] h = tt
lacks_so own (r ∷ rs) h =
    let both = and_parts (not (has own r)) (list_all (λ q. not (has own q)) rs) h in
    (not-true (has own r) both.0, lacks_so own rs both.1)

-- a report of a pass that has none of the rules
other_stands : (own : Rules) (tree : Tree) (rules : Rules) (settings : LinterSettings) (v : Violation) → Lacks own mended_rules → has own v.code ≡ true → IsInItsTable tree rules settings v
other_stands own tree rules settings v l h = by v.code h
  where
    by : (r : Rule) → has own r ≡ true → IfSome (mended_table r) (λ table. Contains (table tree rules settings) v)
    by rule.RequireConcurrentIndexCreation e = absurd (contrary _ l.0 e)
    by rule.RequireConcurrentIndexDeletion e = absurd (contrary _ l.1.0 e)
    by rule.RequireConcurrentReindex e = absurd (contrary _ l.1.1.0 e)
    by rule.RequireConcurrentPartitionDetach e = absurd (contrary _ l.1.1.1.0 e)
    by rule.RequireLockTimeout e = absurd (contrary _ l.1.1.1.1.0 e)
    by rule.RequireStatementTimeout e = absurd (contrary _ l.1.1.1.1.1.0 e)
    by rule.PreferTextField e = absurd (contrary _ l.1.1.1.1.1.1.0 e)
    by rule.PreferTimestampTz e = absurd (contrary _ l.1.1.1.1.1.1.1.0 e)
    by rule.PreferBigintOverInt e = absurd (contrary _ l.1.1.1.1.1.1.1.1.0 e)
    by rule.PreferBigintOverSmallint e = absurd (contrary _ l.1.1.1.1.1.1.1.1.1.0 e)
    by _ e = tt

pub others_stand : (own : Rules) (table : Table) → has_none own ≡ true → IsCoded own table → AllAreInTheirTables table
others_stand own table none coded tree rules settings =
    All-weaker (IsOf own rules) (IsInItsTable tree rules settings) (λ v of. other_stands own tree rules settings v (lacks_so own mended_rules none) of.own) (table tree rules settings) (coded tree rules settings)

-- ---- passes of these rules

-- a set of one rule
only : (q r : Rule) → has (with_rule no_rules q) r ≡ true → r ≡ q
only q r h =
    elim (cases_eq (number_of r) (number_of q)) [
      | inl same ↦ rule_from_number r q same
      | inr differ ↦ absurd (contrary _ (has-with_rule_other no_rules r q (λ e. differ (ap number_of e)) ∙ has-no_rules r) h)
    ]

abbrev InTable : Table → Tree → Rules → LinterSettings → Violation → Rule → Type 0
InTable table tree rules settings v r = Contains (table tree rules settings) v → IfSome (mended_table r) (λ own. Contains (own tree rules settings) v)

-- Each entry of a table whose entries are of rules that have that table stands in it.
known_stand :
    (own : Rules) (table : Table) → ((tree : Tree) (rules : Rules) (settings : LinterSettings) (v : Violation) (r : Rule) → has own r ≡ true → InTable table tree rules settings v r) →
    IsCoded own table → AllAreInTheirTables table
known_stand own table known coded tree rules settings =
    let entries : List Violation = table tree rules settings in
    All-weaker (Contains entries) (IsInItsTable tree rules settings)
    (λ v inside. known tree rules settings v v.code (All-contains (IsOf own rules) entries v (coded tree rules settings) inside).own inside)
    entries (All-contains_itself entries)

-- the same of one rule
pub rule_stands :
    (q : Rule) (table : Table) → ((tree : Tree) (rules : Rules) (settings : LinterSettings) (v : Violation) → InTable table tree rules settings v q) →
    IsCoded (with_rule no_rules q) table → AllAreInTheirTables table
rule_stands q table is coded =
    known_stand (with_rule no_rules q) table (λ tree rules settings v r h. subst (InTable table tree rules settings v) (sym (only q r h)) (is tree rules settings v)) coded

timeout_known : (tree : Tree) (rules : Rules) (settings : LinterSettings) (v : Violation) (r : Rule) → has timeout_rules r ≡ true → InTable timeouts tree rules settings v r
timeout_known tree rules settings v r h =
    elim (or_cases (has (with_rule no_rules rule.RequireLockTimeout) r) (has (with_rule no_rules rule.RequireStatementTimeout) r)
    (sym (has-both_rules (with_rule no_rules rule.RequireLockTimeout) (with_rule no_rules rule.RequireStatementTimeout) r) ∙ h)) [
      | inl lock ↦ subst (InTable timeouts tree rules settings v) (sym (only rule.RequireLockTimeout r lock)) (λ inside. inside)
      | inr statement ↦ subst (InTable timeouts tree rules settings v) (sym (only rule.RequireStatementTimeout r statement)) (λ inside. inside)
    ]

pub timeouts_stand : IsCoded timeout_rules timeouts → AllAreInTheirTables timeouts
timeouts_stand coded = known_stand timeout_rules timeouts timeout_known coded
