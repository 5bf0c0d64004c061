-- What is reported of names that are twice in one list (PostgreSQL manual, CREATE TABLE, CREATE VIEW, INSERT, UPDATE and MERGE: a
-- column may be named once).
use Rattle.std.specs.Prelude.{ℕ, ◌+◌, ◌-◌, ◌==◌, ◌&&◌, Bool, true, false, max, List, [], ◌∷◌, ◌++◌, length, take, drop, slice_index, slice_index_or, map, codes, if◌then◌else◌, Option, Some, None, is_some, unwrap_or}
use Rattle.std.specs.List.{filter_map, flat_map, list_all}
use Rattle.sql_token.specs.declared.token.Tok.{Tok}
use Rattle.sql_token.specs.declared.token.TokKind.{TokKind}
use Rattle.sql_token.specs.declared.token.TokKind.TheVariants as kinds
use Rattle.sql_token.specs.Token.{Text}
use Rattle.lint_pass.specs.sql_tree.declared.nodes.Body.{Body}
use Rattle.lint_pass.specs.sql_tree.declared.nodes.Body.TheVariants as body
use Rattle.lint_pass.specs.sql_tree.declared.nodes.SetPart.{SetPart}
use Rattle.lint_pass.specs.sql_tree.declared.nodes.Stmt.{Stmt}
use Rattle.lint_pass.specs.sql_tree.declared.nodes.Target.{Target}
use Rattle.lint_pass.specs.sql_tree.declared.nodes.ViewDefinition.{ViewDefinition}
use Rattle.lint_pass.specs.sql_tree.Range.{token_at, span_range_of}
use Rattle.lint_pass.specs.sql_tree.Statement.{Tree}
use Rattle.lint_pass.specs.lint_base.declared.edit.Edit.{Edit}
use Rattle.lint_pass.specs.lint_base.declared.rule.Rule.TheVariants as rule
use Rattle.lint_pass.specs.lint_base.declared.violation.Violation.{Violation}
use Rattle.lint_pass.specs.lint_base.Edits.{deletion}
use Rattle.lint_pass.specs.lint_base.Fixes.{FixValue}
use Rattle.lint_pass.specs.lint_transaction.Names.{name_at}
use Rattle.pass_name.specs.declared.members.ListKind.{ListKind}
use Rattle.pass_name.specs.declared.members.ListKind.TheVariants as kind
use Rattle.pass_name.specs.declared.members.Member.{Member}
use Rattle.pass_name.specs.declared.members.Removable.{Removable}
use Rattle.pass_name.specs.Groups.{groups}
use Rattle.pass_name.specs.Members.{same_name, member_of, column_of, assigned, first_token, lists_before, lists_from}

-- ---- the fix

abbrev pub is_punct_kind : TokKind → Bool
is_punct_kind kinds.Punct = true
is_punct_kind _ = false

abbrev pub is_comma : Text → Tok → Bool
is_comma text t = is_punct_kind t.kind && (slice_index text t.start == 44)

abbrev pub is_comment : TokKind → Bool
is_comment kinds.LineComment = true
is_comment kinds.BlockComment = true
is_comment _ = false

-- what follows the first comma
unfoldable pub after_comma : Text → List Tok → List Tok
after_comma text [] = []
after_comma text (t ∷ ts) = if is_comma text t then ts else after_comma text ts

-- where the first comment begins
unfoldable pub first_comment : List Tok → Option ℕ
first_comment [] = None
first_comment (t ∷ ts) = if is_comment t.kind then Some t.start else first_comment ts

-- the tokens between a part and the next one
abbrev pub between : Tree → Removable → List Tok
between tree part = drop (part.last + 1) (take part.next tree.toks)

-- A deleted part ends where the next one begins, or at the first comment after the comma between them.
abbrev pub deletion_end : Tree → Removable → ℕ
deletion_end tree part = unwrap_or (first_comment (after_comma tree.text (between tree part))) (token_at tree.toks part.next).start

unfoldable pub deletion_of : Tree → Removable → Edit
deletion_of tree part =
    let start = (token_at tree.toks part.first).start in
    deletion (record { start = start; end = max start (deletion_end tree part) })

abbrev pub deletions_of : Tree → Option Removable → List Edit
deletions_of tree None = []
deletions_of tree (Some part) = deletion_of tree part ∷ []

abbrev pub has_part : Member → Bool
has_part m = is_some m.part

abbrev pub title : List ℕ → List ℕ
title name = codes "Delete all but the last assignment to `" ++ name ++ codes "`"

-- each earlier name's part is deleted, where each has one
unfoldable pub fix_of : Tree → List Member → Member → Option FixValue
fix_of tree earlier last =
    if list_all has_part earlier
    then Some (record { title = title (name_at tree last.name); edits = flat_map (λ m. deletions_of tree m.part) earlier })
    else None

-- ---- reports

abbrev pub message : ListKind → List ℕ → List ℕ
message kind.Columns name = codes "column `" ++ name ++ codes "` is specified more than once"
message kind.Written name = codes "multiple assignments to the same column `" ++ name ++ codes "`"

unfoldable pub report : ListKind → Tree → Option FixValue → Member → Violation
report kind tree fix m = record {
  code = rule.BanDuplicateColumnAssignments;
  message = message kind (name_at tree m.name);
  text_range = span_range_of tree.toks m.name m.name;
  note = None;
  help = None;
  fix = fix;
}

abbrev pub no_member : Member
no_member = record { name = 0; partial = false; part = None }

abbrev pub earlier : List Member → List Member
earlier group = take (length group - 1) group

abbrev pub last_of : List Member → Member
last_of group = slice_index_or group (length group - 1) no_member

-- A group is reported name by name, unless all of them are partial. The last report has the fix.
unfoldable pub reports_of_group : ListKind → Tree → List Member → List Violation
reports_of_group kind tree group =
    if list_all (λ m. m.partial) group then []
    else map (report kind tree None) (earlier group) ++ report kind tree (fix_of tree (earlier group) (last_of group)) (last_of group) ∷ []

unfoldable pub reports_of_names : ListKind → Tree → List Member → List Violation
reports_of_names kind tree names = flat_map (reports_of_group kind tree) (groups (same_name tree) names)

abbrev pub reports_of_list : ListKind → Tree → List Target → List Violation
reports_of_list kind tree ts = reports_of_names kind tree (map member_of ts)

-- ---- statements

-- a view's columns, or, where it names none, what its query gives
abbrev pub view_names : ViewDefinition → List Target
view_names view = if length view.columns == 0 then view.targets else view.columns

-- each SET clause after the lists that begin before it
unfoldable pub reports_of_write : Tree → List (List SetPart) → List (List Target) → List Violation
reports_of_write tree [] lists = flat_map (reports_of_list kind.Written tree) lists
reports_of_write tree (set ∷ sets) lists =
    flat_map (reports_of_list kind.Written tree) (lists_before (first_token set) lists)
    ++ (reports_of_names kind.Written tree (assigned set) ++ reports_of_write tree sets (lists_from (first_token set) lists))

abbrev pub reports_by : Tree → Body → List Violation
reports_by tree (body.Table temp guarded on_commit_drop word path elems) = reports_of_names kind.Columns tree (filter_map column_of elems)
reports_by tree (body.Into path targets) = reports_of_list kind.Columns tree targets
reports_by tree (body.View view) = reports_of_list kind.Columns tree (view_names view)
reports_by tree (body.Write write) = reports_of_write tree write.sets write.lists
reports_by tree _ = []

abbrev pub lists_columns : Body → Bool
lists_columns (body.Table temp guarded on_commit_drop word path elems) = true
lists_columns (body.Into path targets) = true
lists_columns (body.View view) = true
lists_columns (body.Write write) = true
lists_columns _ = false

-- the reports of a statement, list by list
unfoldable pub reports_of_ban_duplicate_column_assignments : Tree → Stmt → List Violation
reports_of_ban_duplicate_column_assignments tree s = reports_by tree s.body
