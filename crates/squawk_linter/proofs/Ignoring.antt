-- Bare ignore comments, and linting again.
use Rattle.std.proofs.Common.{◌≡◌, ℕ, zero, suc, Bool, true, false, List, [], ◌∷◌, ◌++◌, refl, sym, ap, ◌∙◌, inl, inr}
use Rattle.std.proofs.Math.Bool.{or-true}
use Rattle.std.proofs.lemmas.Bool.{cases_Bool}
use Rattle.std.specs.List.{list_any}
use Rattle.std.specs.Prelude.{◌&&◌, ◌||◌, filter, not, if◌then◌else◌, length, ◌+◌}
use Rattle.sql_read.specs.sql_token.Token.{Text}
use Rattle.sql_read.specs.sql_tree.Statement.{Tree}
use Rattle.sql_read.specs.text_pos.Line.{line_of}
use Rattle.fix_edit.specs.lint_base.declared.rule.Rule.{Rule}
use Rattle.fix_edit.specs.lint_base.declared.rule.Rule.TheVariants as rule
use Rattle.fix_edit.specs.lint_base.declared.settings.LinterSettings.{LinterSettings}
use Rattle.fix_edit.specs.lint_base.declared.violation.Violation.{Violation}
use Rattle.fix_edit.specs.lint_base.RuleSets.{Rules, has}
use Rattle.fix_edit.specs.lint_ignore.declared.ignore.Ignore.{Ignore}
use Rattle.fix_edit.specs.lint_ignore.declared.ignore.IgnoreKind.{IgnoreKind}
use Rattle.fix_edit.specs.lint_ignore.declared.ignore.IgnoreKind.TheVariants.{File, Line}
use Rattle.fix_edit.specs.lint_ignore.Comment.{has_disable_comment}
use Rattle.fix_edit.specs.lint_ignore.Covered.{covers, covers_by, reaches}
use Rattle.fix_edit.specs.lint_ignore.Found.{found_in}
use Rattle.fix_edit.specs.lint_ignore.Index.{is_bare_file, is_file}
use Rattle.fix_edit.specs.lint_ignore.Unused.{unused_names}
use Rattle.squawk_linter.specs.ByStart.{by_key}
use Rattle.squawk_linter.specs.Answers.{reports}
use Rattle.law_answers.specs.pass_groups.OwnTable.{own_table}
use Rattle.squawk_linter.specs.Reports.{cleared, has_bare_file_ignore, is_left, reports_from, start_of, unused_of, with_unknown_names}

-- ---- linting again

twice : (flag disabled : Bool) → ((flag && not disabled) && not disabled) ≡ (flag && not disabled)
twice true true = refl
twice true false = refl
twice false disabled = refl

cleared_again : (tree : Tree) (settings : LinterSettings) → cleared tree (cleared tree settings) ≡ cleared tree settings
cleared_again tree settings = λ i. record settings { assume_in_transaction = twice settings.assume_in_transaction (has_disable_comment tree) i }

pub second_answer : (tree : Tree) (rules : Rules) (settings : LinterSettings) → reports tree rules (cleared tree settings) ≡ reports tree rules settings
second_answer tree rules settings = λ i. reports_from tree (own_table tree rules (cleared_again tree settings i)) rules

-- ---- bare line ignores

pub bare_line : (text : Text) (line : ℕ) (rule : Rule) (g : Ignore) → g.kind ≡ Line → g.ignore_all ≡ true → covers text line rule g ≡ false
bare_line text line rule g kind bare =
    (λ i. covers_by (kind i) text g line rule) ∙ (λ i. not (bare i) && has g.violation_names rule && reaches text g line)

-- ---- bare file ignores

all_covered : (k : IgnoreKind) (text : Text) (line : ℕ) (rule : Rule) (g : Ignore) → (is_file k && g.ignore_all) ≡ true → covers_by k text g line rule ≡ true
all_covered File text line rule g bare = ap (λ (b : Bool). b || has g.violation_names rule) bare
all_covered Line text line rule g bare = absurd (cc)

covered_by_bare : (text : Text) (line : ℕ) (rule : Rule) (gs : List Ignore) → list_any is_bare_file gs ≡ true → list_any (covers text line rule) gs ≡ true
covered_by_bare text line rule [] bare = bare
covered_by_bare text line rule (g ∷ gs) bare =
    elim (cases_Bool (is_bare_file g)) [
      | inl e ↦ ap (λ (b : Bool). b || list_any (covers text line rule) gs) (all_covered g.kind text line rule g e)
      | inr e ↦ ap (λ (b : Bool). covers text line rule g || b) (covered_by_bare text line rule gs (sym (ap (λ (b : Bool). b || list_any is_bare_file gs) e) ∙ bare)) ∙ or-true (covers text line rule g)
    ]

none_left : (text : Text) (gs : List Ignore) (vs : List Violation) → list_any is_bare_file gs ≡ true → filter (is_left text gs) vs ≡ []
none_left text gs [] bare = refl
none_left text gs (v ∷ vs) bare =
    (λ i. if not (covered_by_bare text (line_of text v.text_range.start) v.code gs bare i) then v ∷ filter (is_left text gs) vs else filter (is_left text gs) vs) ∙ none_left text gs vs bare

not_wanted : (a : Bool) (xs : List Violation) → (if a && not true then xs else []) ≡ []
not_wanted true xs = refl
not_wanted false xs = refl

none_unused : (tree : Tree) (all : List Violation) (rules : Rules) → has_bare_file_ignore (found_in tree).ignores ≡ true → unused_of tree all rules ≡ []
none_unused tree all rules bare =
    (λ i. if has rules rule.UnusedIgnore && not (bare i) then unused_names tree all rules else []) ∙ not_wanted (has rules rule.UnusedIgnore) (unused_names tree all rules)

by_key_none : {X : Type 0} (key : X → ℕ) (n : ℕ) → by_key key n [] ≡ []
by_key_none key zero = refl
by_key_none key (suc n) = ap (λ xs. xs ++ []) (by_key_none key n)

pub bare_file : (tree : Tree) (x : List Violation) (rules : Rules) → has_bare_file_ignore (found_in tree).ignores ≡ true → reports_from tree x rules ≡ []
unfolding reports_from
bare_file tree x rules bare =
    let all : List Violation = with_unknown_names tree x in
    let n : ℕ = length tree.text + 1 in
    (λ i. by_key start_of n (none_left tree.text (found_in tree).ignores all bare i ++ none_unused tree all rules bare i)) ∙ by_key_none start_of n
