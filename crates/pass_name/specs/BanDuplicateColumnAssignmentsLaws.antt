-- What holds of each report of a name that is twice in a list.
use Rattle.std.proofs.Common.{◌≡◌, ℕ, ◌+◌, ◌-◌, refl, Bool, true, false, cond, max, Option, Some, None, unwrap_or, List, [], ◌∷◌, ◌++◌, filter, length, map, take, subst, inl, inr, arith}
use Rattle.std.proofs.lemmas.Bool.{cases_lt}
use Rattle.std.proofs.lemmas.List.Elements.{All-append, All-cons, All-drop, All-filter, All-head, All-nil, All-tail, All-take}
use Rattle.std.specs.List.{filter_map, flat_map, list_all}
use Rattle.std.specs.Prelude.{All, ⊤, IfSome}
use Rattle.std.specs.Str.{IsCharBoundary}
use Rattle.lint_pass.specs.lint_base.declared.edit.Edit.{Edit}
use Rattle.lint_pass.specs.lint_base.declared.rule.Rule.TheVariants as rule
use Rattle.lint_pass.specs.lint_base.declared.violation.Violation.{Violation}
use Rattle.lint_pass.specs.lint_base.Fixes.{FixValue}
use Rattle.lint_pass.specs.lint_ignore.Places.{IsPlace}
use Rattle.lint_pass.specs.Laws.{AreEdits, HasCode, IsRead, IsPlacedIn}
use Rattle.lint_pass.specs.PlaceLaws.{span_place, start_place}
use Rattle.lint_pass.specs.RuleLaws.{flat_all, one_all, unless_all}
use Rattle.lint_pass.specs.lint_transaction.Names.{name_at}
use Rattle.lint_pass.specs.lint_transaction.Transaction.{stmt_at}
use Rattle.law_renumber.proofs.Ordered.{Up}
use Rattle.sql_token.specs.declared.token.Tok.{Tok}
use Rattle.sql_token.specs.Token.{Text}
use Rattle.sql_token.proofs.Boundaries.{token_between}
use Rattle.lint_pass.specs.sql_tree.declared.nodes.Body.{Body}
use Rattle.lint_pass.specs.sql_tree.declared.nodes.Body.TheVariants as body
use Rattle.lint_pass.specs.sql_tree.declared.nodes.Elem.{Elem}
use Rattle.lint_pass.specs.sql_tree.declared.nodes.Elem.TheVariants as elem
use Rattle.lint_pass.specs.sql_tree.declared.nodes.SetPart.{SetPart}
use Rattle.lint_pass.specs.sql_tree.declared.nodes.Stmt.{Stmt}
use Rattle.lint_pass.specs.sql_tree.declared.nodes.Target.{Target}
use Rattle.lint_pass.specs.sql_tree.Range.{token_at}
use Rattle.lint_pass.specs.sql_tree.Statement.{Tree}
use Rattle.pass_name.specs.declared.members.ListKind.{ListKind}
use Rattle.pass_name.specs.declared.members.ListKind.TheVariants as kind
use Rattle.pass_name.specs.declared.members.Member.{Member}
use Rattle.pass_name.specs.declared.members.Removable.{Removable}
use Rattle.pass_name.specs.BanDuplicateColumnAssignments.{after_comma, between, deletion_end, deletion_of, deletions_of, reports_of_ban_duplicate_column_assignments, earlier, first_comment, fix_of, has_part, is_comma, is_comment, last_of, report, reports_by, reports_of_group, reports_of_list, reports_of_names, reports_of_write, title, view_names}
use Rattle.pass_name.specs.Groups.{alike, firsts, groups, is_repeated}
use Rattle.pass_name.specs.Members.{assigned, column_of, first_token, lists_before, lists_from, member_of, same_name}
use Rattle.pass_name.specs.EditOrder.{Follows, InOrder, Starts}
use Rattle.pass_name.specs.EditOrderLaws.{any_all, clause_pairs, deletions_apart, map_all, pairs-filter, pairs-take, unset_pairs}
use Rattle.pass_name.specs.SetOrder.{part_starts, sets_in}
use Rattle.pass_name.specs.SetOrderLaws.{sets_ascend}

-- ---- what holds of each report holds of all

columns_none : (elems : List Elem) → All (λ m. m.part ≡ None) (filter_map column_of elems)
columns_none [] = All-nil (λ (m : Member). m.part ≡ None)
columns_none (elem.Column c ∷ elems) =
    All-cons (λ (m : Member). m.part ≡ None) (record { name = c.name; partial = false; part = None }) (filter_map column_of elems) refl (columns_none elems)
columns_none (elem.Constraint c ∷ elems) = columns_none elems
columns_none (elem.Like ∷ elems) = columns_none elems
columns_none (elem.Other ∷ elems) = columns_none elems

targets_none : (ts : List Target) → All (λ m. m.part ≡ None) (map member_of ts)
targets_none ts = map_all (λ (m : Member). m.part ≡ None) member_of ts (λ t. refl)

-- O is what is known of a list of names, and of each list that is left of it
module _ (P : Violation → Type 0) (tree : Tree) (O : List Member → Type 0)
    (some : (p : Member → Bool) (ms : List Member) → O ms → O (filter p ms))
    (first : (n : ℕ) (ms : List Member) → O ms → O (take n ms))
    (unset : (ms : List Member) → All (λ m. m.part ≡ None) ms → O ms)
    (plain : (kind : ListKind) (m : Member) → P (report kind tree None m))
    (fixed : (kind : ListKind) (before : List Member) (m : Member) → O before → P (report kind tree (fix_of tree before m) m)) where
  group_all : (kind : ListKind) (group : List Member) → O group → All P (reports_of_group kind tree group)
  unfolding reports_of_group
  group_all kind group h =
      unless_all P (list_all (λ (m : Member). m.partial) group) (map (report kind tree None) (earlier group) ++ report kind tree (fix_of tree (earlier group) (last_of group)) (last_of group) ∷ [])
      (All-append P (map (report kind tree None) (earlier group)) (report kind tree (fix_of tree (earlier group) (last_of group)) (last_of group) ∷ [])
      (map_all P (report kind tree None) (earlier group) (plain kind))
      (one_all P (report kind tree (fix_of tree (earlier group) (last_of group)) (last_of group)) (fixed kind (earlier group) (last_of group) (first (length group - 1) group h))))

  groups_all : (kind : ListKind) (gs : List (List Member)) → All O gs → All P (flat_map (reports_of_group kind tree) gs)
  groups_all kind [] h = All-nil P
  groups_all kind (g ∷ gs) h = All-append P (reports_of_group kind tree g) (flat_map (reports_of_group kind tree) gs) (group_all kind g (All-head O g gs h)) (groups_all kind gs (All-tail O g gs h))

  names_all : (kind : ListKind) (names : List Member) → O names → All P (reports_of_names kind tree names)
  unfolding reports_of_names groups
  names_all kind names h =
      groups_all kind (filter is_repeated (map (alike (same_name tree) names) (firsts (same_name tree) names)))
      (All-filter is_repeated O (map (alike (same_name tree) names) (firsts (same_name tree) names))
      (map_all O (alike (same_name tree) names) (firsts (same_name tree) names) (λ x. some (same_name tree x) names h)))

  list_all_of : (kind : ListKind) (ts : List Target) → All P (reports_of_list kind tree ts)
  list_all_of kind ts = names_all kind (map member_of ts) (unset (map member_of ts) (targets_none ts))

  lists_all : (lists : List (List Target)) → All P (flat_map (reports_of_list kind.Written tree) lists)
  lists_all lists = flat_all P (reports_of_list kind.Written tree) lists (list_all_of kind.Written)

  write_all : (sets : List (List SetPart)) (lists : List (List Target)) → All (λ parts. O (assigned parts)) sets → All P (reports_of_write tree sets lists)
  unfolding reports_of_write
  write_all [] lists h = lists_all lists
  write_all (set ∷ sets) lists h =
      All-append P (flat_map (reports_of_list kind.Written tree) (lists_before (first_token set) lists)) (reports_of_names kind.Written tree (assigned set) ++ reports_of_write tree sets (lists_from (first_token set) lists))
      (lists_all (lists_before (first_token set) lists))
      (All-append P (reports_of_names kind.Written tree (assigned set)) (reports_of_write tree sets (lists_from (first_token set) lists))
      (names_all kind.Written (assigned set) (All-head (λ parts. O (assigned parts)) set sets h))
      (write_all sets (lists_from (first_token set) lists) (All-tail (λ parts. O (assigned parts)) set sets h)))

  body_all : (b : Body) → All (λ parts. O (assigned parts)) (sets_in b) → All P (reports_by tree b)
  body_all (body.Table temp guarded on_commit_drop word path elems) h = names_all kind.Columns (filter_map column_of elems) (unset (filter_map column_of elems) (columns_none elems))
  body_all (body.Into path targets) h = list_all_of kind.Columns targets
  body_all (body.View view) h = list_all_of kind.Columns (view_names view)
  body_all (body.Write write) h = write_all write.sets write.lists h
  body_all _ h = All-nil P

  duplicates_all : (s : Stmt) → All (λ parts. O (assigned parts)) (sets_in s.body) → All P (reports_of_ban_duplicate_column_assignments tree s)
  unfolding reports_of_ban_duplicate_column_assignments
  duplicates_all s h = body_all s.body h

-- ---- the rule

report_coded : (tree : Tree) (kind : ListKind) (fix : Option FixValue) (m : Member) → HasCode rule.BanDuplicateColumnAssignments (report kind tree fix m)
unfolding report
report_coded tree kind fix m = refl

pub duplicates_coded : (tree : Tree) (s : Stmt) → All (HasCode rule.BanDuplicateColumnAssignments) (reports_of_ban_duplicate_column_assignments tree s)
duplicates_coded tree s =
    duplicates_all (HasCode rule.BanDuplicateColumnAssignments) tree (λ ms. ⊤) (λ p ms h. tt) (λ n ms h. tt) (λ ms h. tt)
    (λ kind m. report_coded tree kind None m) (λ kind before m h. report_coded tree kind (fix_of tree before m) m) s
    (any_all (λ (parts : List SetPart). ⊤) (sets_in s.body) (λ parts. tt))

-- ---- places

all_start : (tree : Tree) → IsRead tree → All (Starts tree.text) tree.toks
all_start tree h = λ k d lt. (token_between tree.text tree.toks k d h.utf8 h.read.lexed lt).0

after_comma-all : (text : Text) (ts : List Tok) → All (Starts text) ts → All (Starts text) (after_comma text ts)
unfolding after_comma
after_comma-all text [] h = h
after_comma-all text (t ∷ ts) h =
    elim (is_comma text t) as (λ (b : Bool). All (Starts text) (cond b ts (after_comma text ts))) [
      | true ↦ All-tail (Starts text) t ts h
      | false ↦ after_comma-all text ts (All-tail (Starts text) t ts h)
    ]

comment_place : (text : Text) (ts : List Tok) (next : ℕ) → All (Starts text) ts → IsCharBoundary text next → IsCharBoundary text (unwrap_or (first_comment ts) next)
unfolding first_comment
comment_place text [] next h n = n
comment_place text (t ∷ ts) next h n =
    elim (is_comment t.kind) as (λ (b : Bool). IsCharBoundary text (unwrap_or (cond b (Some t.start) (first_comment ts)) next)) [
      | true ↦ All-head (Starts text) t ts h
      | false ↦ comment_place text ts next (All-tail (Starts text) t ts h) n
    ]

later_place : (t : Text) (a b : ℕ) → IsCharBoundary t a → IsCharBoundary t b → IsCharBoundary t (max a b)
later_place t a b first second =
    elim (cases_lt a b) [
      | inl lt ↦ let same : b ≡ max a b = omega arith in subst (λ n. IsCharBoundary t n) same second
      | inr ge ↦ let same : a ≡ max a b = omega arith in subst (λ n. IsCharBoundary t n) same first
    ]

module _ (tree : Tree) (read : IsRead tree) where
  deletion_place : (part : Removable) → IsPlace tree.text (deletion_of tree part).text_range
  unfolding deletion_of
  deletion_place part =
      let start = (start_place tree read part.first).start in
      let next = (start_place tree read part.next).start in
      let inside : All (Starts tree.text) (between tree part) =
      All-drop (Starts tree.text) (part.last + 1) _ (All-take (Starts tree.text) part.next tree.toks (all_start tree read)) in
      let end : IsCharBoundary tree.text (deletion_end tree part) =
      comment_place tree.text (after_comma tree.text (between tree part)) (token_at tree.toks part.next).start (after_comma-all tree.text (between tree part) inside) next in
      record { ordered = omega arith; start = start; end = later_place tree.text (token_at tree.toks part.first).start (deletion_end tree part) start end }

  part_places : (part : Option Removable) → All (λ e. IsPlace tree.text e.text_range) (deletions_of tree part)
  part_places None = All-nil (λ (e : Edit). IsPlace tree.text e.text_range)
  part_places (Some part) = one_all (λ (e : Edit). IsPlace tree.text e.text_range) (deletion_of tree part) (deletion_place part)

  fix_placed : (before : List Member) (m : Member) → InOrder tree before → IfSome (fix_of tree before m) (λ f. AreEdits tree.text f.edits)
  unfolding fix_of
  fix_placed before m h =
      let edits : List Edit = flat_map (λ (m : Member). deletions_of tree m.part) before in
      elim (list_all has_part before) as (λ (b : Bool). IfSome {T = FixValue} (cond b (Some (record { title = title (name_at tree m.name); edits = edits })) None) (λ f. AreEdits tree.text f.edits)) [
        | true ↦ record {
          places = flat_all (λ (e : Edit). IsPlace tree.text e.text_range) (λ (m : Member). deletions_of tree m.part) before (λ m. part_places m.part);
          apart = deletions_apart tree read.read before h;
        }
        | false ↦ tt
      ]

  report_placed : (kind : ListKind) (fix : Option FixValue) (m : Member) → IfSome fix (λ f. AreEdits tree.text f.edits) → IsPlacedIn tree (report kind tree fix m)
  unfolding report
  report_placed kind fix m h = record { range = span_place tree read m.name m.name; edits = h }

clauses_ordered : (tree : Tree) (sets : List (List SetPart)) → All (λ parts. Up 0 (part_starts parts) (length tree.toks)) sets → All (λ parts. InOrder tree (assigned parts)) sets
clauses_ordered tree sets h = λ k d lt. clause_pairs (length tree.toks) 0 _ (h k d lt)

-- each report of a statement of the tree is in the text, and so are the deletions of its fix, one after the other
pub duplicates_placed : (tree : Tree) (i : ℕ) → IsRead tree → All (IsPlacedIn tree) (reports_of_ban_duplicate_column_assignments tree (stmt_at tree i))
duplicates_placed tree i read =
    duplicates_all (IsPlacedIn tree) tree (InOrder tree) (λ p ms h. pairs-filter (Follows (length tree.toks)) p ms h) (λ n ms h. pairs-take (Follows (length tree.toks)) n ms h)
    (unset_pairs tree) (λ kind m. report_placed tree read kind None m tt) (λ kind before m h. report_placed tree read kind (fix_of tree before m) m (fix_placed tree read before m h))
    (stmt_at tree i) (clauses_ordered tree (sets_in (stmt_at tree i).body) (sets_ascend tree read.read i))
