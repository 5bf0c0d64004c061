-- Which columns are reported as texts that are padded with blanks (PostgreSQL manual, section 8.3).
use Rattle.std.specs.Prelude.{ℕ, Bool, ◌&&◌, ◌||◌, ◌==◌, List, slice_index, Some, None, codes, if◌then◌else◌}
use Rattle.std.specs.Str.{str_eq_ignore_ascii_case}
use Rattle.lint_pass.specs.sql_name.Name.{quote}
use Rattle.lint_pass.specs.sql_tree.declared.nodes.ColType.{ColType}
use Rattle.lint_pass.specs.sql_tree.declared.nodes.Stmt.{Stmt}
use Rattle.lint_pass.specs.sql_tree.declared.nodes.TyKind.TheVariants as type
use Rattle.lint_pass.specs.sql_tree.Range.{span_range_of}
use Rattle.lint_pass.specs.sql_tree.Statement.{Tree}
use Rattle.lint_pass.specs.lint_base.declared.rule.Rule.TheVariants as rule
use Rattle.lint_pass.specs.lint_base.declared.violation.Violation.{Violation}
use Rattle.lint_pass.specs.lint_base.Fixes.{FixValue}
use Rattle.lint_pass.specs.lint_node.ColumnTypes.{column_types, has_arguments, is_of_kind}
use Rattle.lint_pass.specs.lint_transaction.Names.{name_at}
use Rattle.lint_pass.specs.Fixes.{replacement_fix}
use Rattle.lint_pass.specs.Those.{those}

-- a quoted identifier, and not a word
abbrev pub is_quoted : List ℕ → Bool
is_quoted text = slice_index text 0 == quote

-- a name of the type, in any ASCII case; quoted ones count too
abbrev pub is_char_name : List ℕ → Bool
is_char_name name =
    str_eq_ignore_ascii_case name (codes "char") || (str_eq_ignore_ascii_case name (codes "character") || str_eq_ignore_ascii_case name (codes "bpchar"))

-- CHAR or CHARACTER without VARYING, or a path with such a last name
abbrev pub is_char : Tree → ColType → Bool
is_char tree t = is_of_kind type.Character t || (is_of_kind type.Path t && is_char_name (name_at tree t.name))

-- another name in place of the type's: the last name of a path, or the one word CHAR or CHARACTER; arguments stay
abbrev pub fix : Tree → ColType → FixValue
fix tree t =
    if has_arguments t
    then replacement_fix (codes "Replace with `varchar`") (codes "varchar") (span_range_of tree.toks t.name t.name)
    else replacement_fix (codes "Replace with `text`") (codes "text") (span_range_of tree.toks t.name t.name)

unfoldable pub report : Tree → ColType → Violation
report tree t = record {
  code = rule.BanCharField;
  message = codes "using `character` is likely a mistake and should almost always be replaced by `text` or `varchar`";
  text_range = span_range_of tree.toks t.inner.first t.inner.last;
  note = None;
  help = None;
  fix = Some (fix tree t);
}

abbrev pub reports_of_ban_char_field : Tree → Stmt → List Violation
reports_of_ban_char_field tree s = those (is_char tree) (report tree) (column_types s)
