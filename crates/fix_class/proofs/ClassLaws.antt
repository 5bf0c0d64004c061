-- What holds of the text around a statement whose fix is safe, or is offered at all.
use Rattle.std.proofs.Common.{◌≡◌, ◌∙◌, sym, ap, refl, arith, ℕ, zero, suc, ◌<◌, ◌⊎◌, inl, inr, eq-or-lt_of_le, Bool, true, false, ◌||◌, length, Option, Some, None}
use Rattle.std.specs.Prelude.{if◌then◌else◌}
use Rattle.std.specs.List.{list_any}
use Rattle.std.proofs.lemmas.Bool.{cases_Bool, or_parts, true≢false}
use Rattle.std.proofs.lemmas.List.Folds.{list_any_at}
use Rattle.lint_ignore.specs.sql_tree.declared.nodes.Stmt.{Stmt}
use Rattle.lint_ignore.specs.sql_tree.Statement.{Tree}
use Rattle.lint_report.specs.lint_base.declared.rule.Rule.{Rule}
use Rattle.lint_report.specs.lint_base.declared.rule.Rule.TheVariants as rule
use Rattle.lint_report.specs.lint_base.declared.settings.LinterSettings.{LinterSettings}
use Rattle.lint_report.specs.lint_base.declared.violation.Violation.{Violation}
use Rattle.lint_report.specs.declared.fix_class.FixClass.{FixClass}
use Rattle.lint_report.specs.declared.fix_class.FixClass.TheVariants.{Safe, Unsafe, Template}
use Rattle.lint_transaction.specs.Earlier.{any_below}
use Rattle.lint_transaction.specs.Transaction.{no_stmt, stmt_at}
use Rattle.statement_place.specs.Statements.{number_behind}
use Rattle.fix_class.specs.declared.known.Known.{Known}
use Rattle.fix_class.specs.Classes.{class_at, class_by, class_by_bytes, class_of, class_unless, is_ascii_in, is_glued, is_no_build, is_no_drop, is_no_rebuild, is_out_of_place}
use Rattle.fix_class.specs.Known.{is_outside_work, known_at, limits}
use Rattle.fix_class.specs.Laws.{ConcurrentFixesAreAlone, IsAlone, IsConcurrentRule, IsTimeoutRule, SafeFixesCutNames, TimeoutFixesSpareOutsideWork}

-- ---- classes

-- it is offered, and this is its class
offered : (refused : Bool) (class other : FixClass) → class_unless refused class ≡ Some other → (refused ≡ false) × (class ≡ other)
offered true class other h = absurd (cc)
offered false class other h = (refl, cc)

unsafe_is_unsafe : (refused : Bool) → class_unless refused Unsafe ≡ Some Safe → Unsafe ≡ Safe
unsafe_is_unsafe refused h = (offered refused Unsafe Safe h).1

-- ---- by rule

safe_by : (r : Rule) (known : Known) (tree : Tree) (s : Stmt) → class_by r known tree s ≡ Some Safe → r ≡ rule.IdentifierTooLong
unfolding class_by
safe_by rule.IdentifierTooLong known tree s h = refl
safe_by rule.RequireConcurrentIndexCreation known tree s h = let e = unsafe_is_unsafe _ h in absurd (cc)
safe_by rule.RequireConcurrentIndexDeletion known tree s h = let e = unsafe_is_unsafe _ h in absurd (cc)
safe_by rule.RequireConcurrentReindex known tree s h = let e = unsafe_is_unsafe _ h in absurd (cc)
safe_by rule.RequireConcurrentPartitionDetach known tree s h = let e = unsafe_is_unsafe _ h in absurd (cc)
safe_by rule.PreferRepack known tree s h = let e = unsafe_is_unsafe _ h in absurd (cc)
safe_by rule.RequireLockTimeout known tree s h = let e = unsafe_is_unsafe _ h in absurd (cc)
safe_by rule.RequireStatementTimeout known tree s h = let e = unsafe_is_unsafe _ h in absurd (cc)
safe_by rule.PreferRobustStmts known tree s h = let e = unsafe_is_unsafe _ h in absurd (cc)
safe_by rule.PreferIdentity known tree s h = let e = unsafe_is_unsafe _ h in absurd (cc)
safe_by rule.RequireEnumValueOrdering known tree s h = absurd (cc)
safe_by _ known tree s h = absurd (cc)

first_of : (a b : Bool) → (a || b) ≡ false → a ≡ false
first_of a b h = (or_parts a b h).0

out_of_place_by : (r : Rule) (known : Known) (tree : Tree) (s : Stmt) (class : FixClass) → IsConcurrentRule r → class_by r known tree s ≡ Some class
    → is_out_of_place known ≡ false
unfolding class_by
out_of_place_by _ known tree s class IsConcurrentRule.creation h =
    first_of _ _ (first_of _ _ (first_of _ _ (offered (is_no_build known tree s) Unsafe class h).0))
out_of_place_by _ known tree s class IsConcurrentRule.deletion h =
    first_of _ _ (first_of _ _ (offered (is_no_drop known tree s) Unsafe class h).0)
out_of_place_by _ known tree s class IsConcurrentRule.rebuild h =
    first_of _ _ (first_of _ _ (offered (is_no_rebuild known tree s) Unsafe class h).0)

no_work_by : (r : Rule) (known : Known) (tree : Tree) (s : Stmt) (class : FixClass) → IsTimeoutRule r → class_by r known tree s ≡ Some class
    → known.has_outside_work ≡ false
unfolding class_by
no_work_by _ known tree s class IsTimeoutRule.lock h = (offered known.has_outside_work Unsafe class h).0
no_work_by _ known tree s class IsTimeoutRule.statement h = (offered known.has_outside_work Unsafe class h).0

-- ---- what is known

at_last : (p : ℕ → Bool) (n k : ℕ) → (k ≡ n) ⊎ (k < n) → p n ≡ false → ((k : ℕ) → k < n → p k ≡ false) → p k ≡ false
at_last p n k (inl e) last before = ap p e ∙ last
at_last p n k (inr l) last before = before k l

none_below : (p : ℕ → Bool) (n : ℕ) → any_below p n ≡ false → (k : ℕ) → k < n → p k ≡ false
none_below p zero h k l = absurd (omega (arith, l))
none_below p (suc n) h k l =
    let both = or_parts (any_below p n) (p n) h in
    at_last p n k (eq-or-lt_of_le (omega (arith, l))) both.1 (none_below p n both.0)

-- the report is on a statement of the text
at_statement : (b : Bool) (there : Option FixClass) (class : FixClass) → (if b then there else None) ≡ Some class → there ≡ Some class
at_statement true there class h = h
at_statement false there class h = absurd (cc)

alone : (settings : LinterSettings) (tree : Tree) (i : ℕ) → is_out_of_place (known_at settings tree i) ≡ false → IsAlone settings tree i
unfolding known_at
alone settings tree i h =
    let both = or_parts _ _ h in
    record { outside = both.0; unlimited = none_below (λ j. limits tree (stmt_at tree j)) i both.1 }

-- ---- by place and bytes

-- what is offered is not glued to a mark, and is by the statement
by_place : (glued : Bool) (there : Option FixClass) (class : FixClass) → (if glued then None else there) ≡ Some class → (glued ≡ false) × (there ≡ Some class)
by_place true there class h = absurd (cc)
by_place false there class h = (refl, h)

safe_by_bytes : (ascii : Bool) (there : Option FixClass) → class_by_bytes ascii there ≡ Some Safe → (ascii ≡ true) × (there ≡ Some Safe)
safe_by_bytes true (Some Safe) h = (refl, refl)
safe_by_bytes false (Some Safe) h = absurd (cc)
safe_by_bytes ascii (Some Unsafe) h = absurd (cc)
safe_by_bytes ascii (Some Template) h = absurd (cc)
safe_by_bytes ascii None h = absurd (cc)

-- a class, whichever it is
record Offered (there : Option FixClass) : Type 0 where
  class : FixClass
  is : there ≡ Some class

offered_by_bytes : (ascii : Bool) (there : Option FixClass) (class : FixClass) → class_by_bytes ascii there ≡ Some class → Offered there
offered_by_bytes ascii None class h = absurd (cc)
offered_by_bytes ascii (Some found) class h = record { class = found; is = refl }

-- the fix is offered by the statement
offered_there : (settings : LinterSettings) (tree : Tree) (v : Violation) (class : FixClass) → class_of settings tree v ≡ Some class
    → Offered (class_at settings tree v.code (number_behind tree v.text_range.start))
unfolding class_of
offered_there settings tree v class h =
    offered_by_bytes (is_ascii_in tree.text v.text_range) _ class (by_place (is_glued tree.text v.text_range) _ class h).1

-- ---- the laws

pub safe_fixes_cut_names : SafeFixesCutNames
unfolding class_of
safe_fixes_cut_names settings tree v h =
    let i = number_behind tree v.text_range.start in
    let both = by_place (is_glued tree.text v.text_range) _ Safe h in
    let safe = safe_by_bytes (is_ascii_in tree.text v.text_range) _ both.1 in
    record {
      rule_is = safe_by v.code (known_at settings tree i) tree (stmt_at tree i) (at_statement _ _ Safe safe.1);
      apart = both.0;
      ascii = safe.0;
    }

pub concurrent_fixes_are_alone : ConcurrentFixesAreAlone
concurrent_fixes_are_alone settings tree v class r h =
    let i = number_behind tree v.text_range.start in
    let there = offered_there settings tree v class h in
    alone settings tree i (out_of_place_by v.code (known_at settings tree i) tree (stmt_at tree i) there.class r (at_statement _ _ there.class there.is))

no_work : (settings : LinterSettings) (tree : Tree) (i : ℕ) → (known_at settings tree i).has_outside_work ≡ false → list_any is_outside_work tree.stmts ≡ false
unfolding known_at
no_work settings tree i h = h

none_at : (tree : Tree) (j : ℕ) → j < length tree.stmts → list_any is_outside_work tree.stmts ≡ false → is_outside_work (stmt_at tree j) ≡ false
none_at tree j l h =
    elim (cases_Bool (is_outside_work (stmt_at tree j))) [
      | inl found ↦ absurd (true≢false (sym (list_any_at is_outside_work tree.stmts j no_stmt l found) ∙ h))
      | inr none ↦ none
    ]

pub timeout_fixes_spare_outside_work : TimeoutFixesSpareOutsideWork
timeout_fixes_spare_outside_work settings tree v class r h j l =
    let i = number_behind tree v.text_range.start in
    let there = offered_there settings tree v class h in
    none_at tree j l
    (no_work settings tree i (no_work_by v.code (known_at settings tree i) tree (stmt_at tree i) there.class r (at_statement _ _ there.class there.is)))
