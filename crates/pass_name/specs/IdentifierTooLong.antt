-- Which identifiers are reported for their length (PostgreSQL manual, section 4.1.1: an identifier is cut to 63 bytes).
use Rattle.std.specs.Prelude.{ℕ, zero, suc, ◌+◌, ◌-◌, ◌==◌, Bool, true, false, not, ◌&&◌, ◌||◌, nat_le, nat_lt, List, [], ◌∷◌, ◌++◌, length, Option, Some, None, codes, if◌then◌else◌}
use Rattle.std.specs.List.{list_all, list_any}
use Rattle.lint_pass.specs.sql_name.Name.{cut_to, quote}
use Rattle.sql_token.specs.declared.token.TokKind.{TokKind}
use Rattle.sql_token.specs.declared.token.TokKind.TheVariants as kinds
use Rattle.lint_pass.specs.sql_tree.declared.nodes.Stmt.{Stmt}
use Rattle.sql_token.specs.Terminal.{is_name_kind}
use Rattle.lint_pass.specs.sql_tree.Range.{span_range_of, token_at}
use Rattle.lint_pass.specs.sql_tree.Statement.{Tree}
use Rattle.lint_pass.specs.lint_base.declared.rule.Rule.TheVariants as rule
use Rattle.lint_pass.specs.lint_base.declared.violation.Violation.{Violation}
use Rattle.lint_pass.specs.lint_base.Fixes.{FixValue}
use Rattle.lint_pass.specs.Fixes.{replacement_fix}
use Rattle.lint_pass.specs.Those.{those}
use Rattle.lint_pass.specs.lint_transaction.Names.{name_at}

-- ---- identifiers

-- so many numbers, from this one on
unfoldable pub numbers_from : ℕ → ℕ → List ℕ
numbers_from first zero = []
numbers_from first (suc count) = first ∷ numbers_from (first + 1) count

-- the numbers of a statement's tokens
abbrev pub token_numbers : Stmt → List ℕ
token_numbers s = numbers_from s.first (s.last + 1 - s.first)

abbrev pub kind_at : Tree → ℕ → TokKind
kind_at tree number = (token_at tree.toks number).kind

-- a word or a quoted identifier of which PostgreSQL keeps a part
abbrev pub is_too_long : Tree → ℕ → Bool
is_too_long tree number = is_name_kind (kind_at tree number) && nat_lt 63 (length (name_at tree number))

-- a token of more than 63 bytes, as each identifier that is too long is
abbrev pub is_long_at : Tree → ℕ → Bool
is_long_at tree number = nat_lt ((token_at tree.toks number).start + 63) (token_at tree.toks number).end

-- ---- the new name

abbrev pub is_quoted_kind : TokKind → Bool
is_quoted_kind kinds.Quoted = true
is_quoted_kind _ = false

-- a to z and `_`
abbrev pub begins_word : ℕ → Bool
begins_word b = (nat_le 97 b && nat_le b 122) || b == 95

-- these, 0 to 9 and `$`
abbrev pub continues_word : ℕ → Bool
continues_word b = begins_word b || (nat_le 48 b && nat_le b 57) || b == 36

-- a word that means itself without quotes
abbrev pub is_plain_word : List ℕ → Bool
is_plain_word [] = false
is_plain_word (b ∷ bs) = begins_word b && list_all continues_word bs

abbrev pub needs_quotes : TokKind → List ℕ → Bool
needs_quotes kind name = is_quoted_kind kind || not (is_plain_word name)

abbrev pub in_quotes : List ℕ → List ℕ
in_quotes name = codes "\"" ++ name ++ codes "\""

-- the name that PostgreSQL keeps of this one, as it is written
unfoldable pub kept_name : TokKind → List ℕ → List ℕ
kept_name kind full = if needs_quotes kind (cut_to 63 full) then in_quotes (cut_to 63 full) else cut_to 63 full

abbrev pub has_quote : List ℕ → Bool
has_quote name = list_any (λ b. b == quote) name

-- a quoted identifier with `""`, which is `"` in its full text
abbrev pub has_doubled : TokKind → List ℕ → Bool
has_doubled kind full = is_quoted_kind kind && has_quote full

abbrev pub title : List ℕ → List ℕ
title name = codes "Rename to `" ++ name ++ codes "`"

-- the name that is kept, in place of the whole one
unfoldable pub rename : Tree → ℕ → FixValue
rename tree number =
    let name = kept_name (kind_at tree number) (name_at tree number) in
    replacement_fix (title name) name (span_range_of tree.toks number number)

unfoldable pub fix_of : Tree → ℕ → Option FixValue
fix_of tree number = if has_doubled (kind_at tree number) (name_at tree number) then None else Some (rename tree number)

-- ---- reports

abbrev pub message : List ℕ → List ℕ
message name = codes "`" ++ name ++ codes "` is too long and will be truncated to 63 bytes"

unfoldable pub report : Tree → ℕ → Violation
report tree number = record {
  code = rule.IdentifierTooLong;
  message = message (name_at tree number);
  text_range = span_range_of tree.toks number number;
  note = None;
  help = None;
  fix = fix_of tree number;
}

-- each identifier of a statement that is too long
unfoldable pub reports_of_identifier_too_long : Tree → Stmt → List Violation
reports_of_identifier_too_long tree s = those (is_too_long tree) (report tree) (token_numbers s)
