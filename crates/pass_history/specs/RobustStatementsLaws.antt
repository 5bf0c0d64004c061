-- What holds of each report of a statement that can't be run again.
use Rattle.std.specs.Prelude.{ℕ, Bool, true, false, All, ◌||◌, ◌&&◌, not, is_some, List, [], ◌∷◌, codes, Option, Some, None, refl, IfSome, if◌then◌else◌}
use Rattle.std.proofs.lemmas.List.Elements.{All-append, All-nil}
use Rattle.lint_pass.specs.text_pos.Range.{Range}
use Rattle.lint_pass.specs.sql_token.declared.token.Span.{Span}
use Rattle.sql_tree.specs.declared.kinds.StmtKind.TheVariants as stmt
use Rattle.sql_tree.specs.declared.nodes.Action.{Action}
use Rattle.sql_tree.specs.declared.nodes.Body.{Body}
use Rattle.sql_tree.specs.declared.nodes.Body.TheVariants as body
use Rattle.sql_tree.specs.declared.nodes.Stmt.{Stmt}
use Rattle.sql_tree.specs.Statement.{Tree}
use Rattle.lint_pass.specs.lint_base.Fixes.{FixValue}
use Rattle.lint_pass.specs.lint_base.declared.rule.Rule.TheVariants as rule
use Rattle.lint_pass.specs.lint_base.declared.settings.LinterSettings.{LinterSettings}
use Rattle.lint_pass.specs.lint_base.declared.violation.Violation.{Violation}
use Rattle.lint_pass.specs.lint_ignore.Places.{IsPlace}
use Rattle.lint_pass.specs.lint_node.Altered.{Altered}
use Rattle.lint_pass.specs.lint_node.Same.{same_kind}
use Rattle.lint_pass.specs.lint_transaction.Events.{each_event}
use Rattle.lint_pass.specs.lint_transaction.Transaction.{stmt_at}
use Rattle.lint_pass.specs.FixLaws.{after_token, before_token}
use Rattle.lint_pass.specs.Laws.{AreEdits, HasCode, IsRead, IsPlacedIn}
use Rattle.lint_pass.specs.PlaceLaws.{span_place}
use Rattle.lint_pass.specs.RuleLaws.{one_all, unless_all}
use Rattle.pass_history.specs.EventLaws.{each_event_all}
use Rattle.pass_history.specs.History.{altered_at, altered_below}
use Rattle.pass_history.specs.PreferRobustStmts as robust
use Rattle.pass_history.specs.RobustActions as acts
use Rattle.pass_history.specs.RobustStatements as spec

-- what holds of each kind of report holds of all
module _ (P : Violation → Type 0) (tree : Tree)
    (dropped : (a : Action) → P (acts.drop_report tree a))
    (column : (a : Action) → P (acts.column_report tree a))
    (other : (a : Action) → P (acts.other_report tree a))
    (index : (s : Stmt) (name : ℕ) → P (spec.index_report tree s name))
    (table : (s : Stmt) (word : ℕ) → P (spec.table_report tree s word))
    (indexes : (s : Stmt) (paths : List Span) → P (spec.index_drop tree s paths))
    (object : (s : Stmt) (word : ℕ) → P (spec.object_drop tree s word)) where
  one : (quiet : Bool) (v : Violation) → P v → All P (robust.unless quiet v)
  one quiet v q = unless_all P quiet (v ∷ []) (one_all P v q)

  of_action : (excused : Bool) (a : Action) → All P (acts.action_reports tree excused a)
  of_action excused a = by (acts.is_drop a) (acts.is_add_column a)
    where
      by : (drop add : Bool)
          → All P (if drop then robust.unless a.guarded (acts.drop_report tree a)
          else if add then robust.unless a.guarded (acts.column_report tree a)
          else robust.unless excused (acts.other_report tree a))
      by true add = one a.guarded (acts.drop_report tree a) (dropped a)
      by false true = one a.guarded (acts.column_report tree a) (column a)
      by false false = one excused (acts.other_report tree a) (other a)

  of_event : (robust : Bool) (es : List Altered) (e : Altered) → All P (acts.report_on robust tree es e)
  of_event robust es e = unless_all P robust (acts.action_reports tree (acts.is_excused tree es e.action) e.action) (of_action (acts.is_excused tree es e.action) e.action)

  of_drop : (s : Stmt) (word : ℕ) (paths : List Span) → P (spec.drop_report tree s word paths)
  of_drop s word paths = by (same_kind s.kind stmt.DropIndex)
    where
      by : (is_index : Bool) → P (if is_index then spec.index_drop tree s paths else spec.object_drop tree s word)
      by true = indexes s paths
      by false = object s word

  of_index : (s : Stmt) (quiet : Bool) (name : Option ℕ) → All P (spec.index_reports tree s quiet name)
  of_index s quiet None = All-nil P
  of_index s quiet (Some name) = one quiet (spec.index_report tree s name) (index s name)

  of_body : (robust : Bool) (s : Stmt) (b : Body) → All P (spec.body_reports tree robust s b)
  of_body robust s (body.Index word unique concurrently guarded name path) = of_index s (guarded || (robust && not (is_some concurrently))) name
  of_body robust s (body.Table temp guarded on_commit_drop word path elems) = one _ (spec.table_report tree s word) (table s word)
  of_body robust s (body.Drop word concurrently guarded paths) = one (robust || guarded) (spec.drop_report tree s word paths) (of_drop s word paths)
  of_body robust s _ = All-nil P

  robust_all : (robust : Bool) (i : ℕ) → All P (spec.robust_at tree robust i)
  robust_all robust i =
      All-append P (each_event (acts.report_on robust tree) (altered_below tree i) (altered_at tree i)) (spec.statement_reports tree robust (stmt_at tree i))
      (each_event_all P (acts.report_on robust tree) (altered_below tree i) (altered_at tree i) (of_event robust))
      (of_body robust (stmt_at tree i) (stmt_at tree i).body)

-- ---- its rule

exists_coded : (range : Range) (fix : Option FixValue) → HasCode rule.PreferRobustStmts (robust.missing_exists range fix)
unfolding robust.missing_exists
exists_coded range fix = refl

not_exists_coded : (range : Range) (fix : Option FixValue) → HasCode rule.PreferRobustStmts (robust.missing_not_exists range fix)
unfolding robust.missing_not_exists
not_exists_coded range fix = refl

transaction_coded : (range : Range) → HasCode rule.PreferRobustStmts (robust.no_transaction range)
unfolding robust.no_transaction
transaction_coded range = refl

-- ---- its place

exists_placed : (tree : Tree) (range : Range) (fix : Option FixValue) → IsPlace tree.text range → IfSome fix (λ f. AreEdits tree.text f.edits) → IsPlacedIn tree (robust.missing_exists range fix)
unfolding robust.missing_exists
exists_placed tree range fix at edits = record { range = at; edits = edits }

not_exists_placed : (tree : Tree) (range : Range) (fix : Option FixValue) → IsPlace tree.text range → IfSome fix (λ f. AreEdits tree.text f.edits) → IsPlacedIn tree (robust.missing_not_exists range fix)
unfolding robust.missing_not_exists
not_exists_placed tree range fix at edits = record { range = at; edits = edits }

transaction_placed : (tree : Tree) (range : Range) → IsPlace tree.text range → IsPlacedIn tree (robust.no_transaction range)
unfolding robust.no_transaction
transaction_placed tree range at = record { range = at; edits = tt }

after_placed : (tree : Tree) → IsRead tree → (title text : List ℕ) (word : Option ℕ) → IfSome (robust.after_word tree title text word) (λ f. AreEdits tree.text f.edits)
unfolding robust.after_word
after_placed tree read title text None = tt
after_placed tree read title text (Some n) = after_token tree read text n

before_placed : (tree : Tree) → IsRead tree → (title text : List ℕ) (word : Option ℕ) → IfSome (robust.before_word tree title text word) (λ f. AreEdits tree.text f.edits)
unfolding robust.before_word
before_placed tree read title text None = tt
before_placed tree read title text (Some n) = before_token tree read text n

-- ---- the laws

pub robust_coded : (tree : Tree) (settings : LinterSettings) (i : ℕ) → All (HasCode rule.PreferRobustStmts) (spec.robust_of tree settings i)
robust_coded tree settings i =
    robust_all (HasCode rule.PreferRobustStmts) tree
    (λ a. exists_coded _ _)
    (λ a. not_exists_coded _ _)
    (λ a. transaction_coded _)
    (λ s name. not_exists_coded _ _)
    (λ s word. not_exists_coded _ _)
    (λ s paths. exists_coded _ _)
    (λ s word. exists_coded _ _)
    (robust.is_robust settings tree i) i

pub robust_placed : (tree : Tree) (settings : LinterSettings) (i : ℕ) → IsRead tree → All (IsPlacedIn tree) (spec.robust_of tree settings i)
robust_placed tree settings i read =
    robust_all (IsPlacedIn tree) tree
    (λ a. exists_placed tree _ _ (span_place tree read a.first a.last) (after_placed tree read robust.exists_title (codes " if exists") a.word))
    (λ a. not_exists_placed tree _ _ (span_place tree read a.first a.last) (after_placed tree read robust.not_exists_title (codes " if not exists") a.word))
    (λ a. transaction_placed tree _ (span_place tree read a.first a.last))
    (λ s name. not_exists_placed tree _ _ (span_place tree read s.first s.last) (before_placed tree read robust.not_exists_title (codes "if not exists ") (Some name)))
    (λ s word. not_exists_placed tree _ _ (span_place tree read s.first s.last) (after_placed tree read robust.not_exists_title (codes " if not exists") (Some word)))
    (λ s paths. exists_placed tree _ _ (span_place tree read s.first s.last) (before_placed tree read robust.exists_title (codes "if exists ") (spec.first_of paths)))
    (λ s word. exists_placed tree _ _ (span_place tree read s.first s.last) (after_placed tree read robust.exists_title (codes " if exists") (Some word)))
    (robust.is_robust settings tree i) i
