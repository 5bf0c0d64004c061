-- The report of a transaction that is left open is of its rule, and is in the text.
use Rattle.std.specs.Prelude.{◌≡◌, All, length, refl, Option, Some, None}
use Rattle.std.proofs.Common.{arith}
use Rattle.std.proofs.lemmas.List.Elements.{All-nil}
use Rattle.std.proofs.lemmas.Str.{IsCharBoundary-end}
use Rattle.lint_pass.specs.sql_token.declared.token.Span.{Span}
use Rattle.lint_pass.specs.sql_tree.Statement.{Tree}
use Rattle.lint_pass.specs.lint_base.declared.edit.Edit.{Edit}
use Rattle.lint_pass.specs.lint_ignore.Places.{IsPlace}
use Rattle.lint_pass.specs.lint_base.declared.rule.Rule.{Rule}
use Rattle.lint_pass.specs.lint_base.declared.rule.Rule.TheVariants as rule
use Rattle.lint_pass.specs.lint_base.declared.violation.Violation.{Violation}
use Rattle.lint_pass.specs.lint_base.Edits.{insertion}
use Rattle.lint_pass.specs.lint_base.RuleSets.{Rules, has, no_rules, with_rule}
use Rattle.lint_pass.specs.Laws.{IsOf, HasCode, IsRead, IsPlacedIn, reports_by}
use Rattle.lint_pass.specs.PlaceLaws.{span_place}
use Rattle.lint_pass.specs.RuleLaws.{one_all, where_all, where_apart, where_coded}
use Rattle.pass_session.specs.BanUncommittedTransaction.{left_open, commit_line, report, left_reports, reports_of_ban_uncommitted_transaction}

report_coded : (tree : Tree) (begin : Span) → HasCode rule.BanUncommittedTransaction (report tree begin)
unfolding report
report_coded tree begin = refl

report_placed : (tree : Tree) (begin : Span) → IsRead tree → IsPlacedIn tree (report tree begin)
unfolding report
report_placed tree begin read =
    let end = IsCharBoundary-end tree.text in
    record {
      range = span_place tree read begin.first begin.last;
      edits =
          record {
            places = one_all (λ (e : Edit). IsPlace tree.text e.text_range) (insertion (commit_line tree) (length tree.text)) (record { ordered = omega arith; start = end; end = end });
            apart = tt;
          };
    }

left_all : (P : Violation → Type 0) (tree : Tree) (o : Option Span) → ((begin : Span) → P (report tree begin)) → All P (left_reports tree o)
left_all P tree None h = All-nil P
left_all P tree (Some begin) h = one_all P (report tree begin) (h begin)

all_coded : (tree : Tree) → All (HasCode rule.BanUncommittedTransaction) (left_reports tree (left_open tree (length tree.stmts)))
all_coded tree = left_all (HasCode rule.BanUncommittedTransaction) tree (left_open tree (length tree.stmts)) (report_coded tree)

pub uncommitted_coded : (tree : Tree) (r : Rules) → All (IsOf (with_rule no_rules rule.BanUncommittedTransaction) r) (reports_of_ban_uncommitted_transaction tree r)
uncommitted_coded tree r =
    where_coded rule.BanUncommittedTransaction (left_reports tree (left_open tree (length tree.stmts))) r (all_coded tree)

pub uncommitted_placed : (tree : Tree) (r : Rules) → IsRead tree → All (IsPlacedIn tree) (reports_of_ban_uncommitted_transaction tree r)
uncommitted_placed tree r read =
    where_all (IsPlacedIn tree) (has r rule.BanUncommittedTransaction) (left_reports tree (left_open tree (length tree.stmts)))
    (λ _. left_all (IsPlacedIn tree) tree (left_open tree (length tree.stmts)) (λ begin. report_placed tree begin read))

pub uncommitted_apart : (tree : Tree) (q : Rule) (some others : Rules) → has some q ≡ has others q → reports_by q (reports_of_ban_uncommitted_transaction tree some) ≡ reports_by q (reports_of_ban_uncommitted_transaction tree others)
uncommitted_apart tree q some others same =
    where_apart rule.BanUncommittedTransaction (left_reports tree (left_open tree (length tree.stmts))) q some others same (all_coded tree)
