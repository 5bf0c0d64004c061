-- A statement of which nothing is reported, in a plain text, does no work on an old table.
use Rattle.std.proofs.Common.{◌≡◌, ◌∙◌, ap, refl, ℕ, Bool, true, false, ◌&&◌, ◌||◌, not, List, [], Option, Some, None}
use Rattle.std.proofs.lemmas.Bool.{and_left, not_from_true}
use Rattle.std.proofs.lemmas.List.Elements.{All-from_recursion}
use Rattle.std.proofs.lemmas.List.Folds.{list_any_none}
use Rattle.std.specs.List.{AllByRecursion}
use Rattle.std.specs.Prelude.{is_none, is_some, if◌then◌else◌}
use Rattle.lock_machine.specs.sql_token.declared.token.Span.{Span}
use Rattle.lock_machine.specs.sql_tree.declared.kinds.ActionKind.{ActionKind}
use Rattle.lock_machine.specs.sql_tree.declared.kinds.ActionKind.TheVariants as action
use Rattle.lock_machine.specs.sql_tree.declared.kinds.PieceKind.{PieceKind}
use Rattle.lock_machine.specs.sql_tree.declared.kinds.PieceKind.TheVariants as piece
use Rattle.lock_machine.specs.sql_tree.declared.kinds.StmtKind.{StmtKind}
use Rattle.lock_machine.specs.sql_tree.declared.kinds.StmtKind.TheVariants as stmt
use Rattle.lock_machine.specs.sql_tree.declared.nodes.Action.{Action}
use Rattle.lock_machine.specs.sql_tree.declared.nodes.Body.{Body}
use Rattle.lock_machine.specs.sql_tree.declared.nodes.Body.TheVariants as body
use Rattle.lock_machine.specs.sql_tree.declared.nodes.Piece.{Piece}
use Rattle.lock_machine.specs.sql_tree.declared.nodes.Stmt.{Stmt}
use Rattle.lock_machine.specs.sql_tree.Nodes.{actions_in}
use Rattle.lock_machine.specs.sql_tree.Path.{path_cuts}
use Rattle.lock_machine.specs.sql_tree.Statement.{Tree}
use Rattle.lock_machine.specs.lint_base.declared.settings.LinterSettings.{LinterSettings}
use Rattle.lock_machine.specs.lint_lock.declared.lock.LockKind.{LockKind}
use Rattle.lock_machine.specs.lint_lock.declared.lock.LockKind.TheVariants.{AccessExclusive}
use Rattle.lock_machine.specs.lint_lock.Lock.{lock_of_action}
use Rattle.lock_machine.specs.lint_node.Altered.{path_in}
use Rattle.lock_machine.specs.lint_node.Parts.{is_checked, new_constraints}
use Rattle.lock_machine.specs.lint_node.Plain.{drops_plainly, is_system, rebuilds_plainly}
use Rattle.lock_machine.specs.lint_node.Same.{same_action, same_kind, same_piece}
use Rattle.lock_machine.specs.lint_transaction.Transaction.{is_new}
use Rattle.lock_machine.specs.Machine.{Machine, is_young}
use Rattle.lock_machine.specs.Plain.{is_valued_reindex}
use Rattle.lock_machine.specs.Works.{action_lock, changes_type, index_lock_by, indexed_table, is_old, is_type_kind, is_work_by, lock_if, rebuilt_table, work_if, works_of, works_of_actions}
use Rattle.pass_groups.specs.pass_concurrent.RequireConcurrentIndexCreation as build
use Rattle.law_clean.specs.Clean.{IsYoung}
use Rattle.law_clean.proofs.ColumnWork.{AreQuiet, column_work}
use Rattle.law_clean.proofs.Nothing.{each-append, each-flat_map, each_from, empty_unless, not_both}

-- ---- actions

-- no piece gives a column another type
abbrev pub KeepsTypes : Action → Type 0
KeepsTypes a = AllByRecursion (λ p. same_piece piece.SetType p.kind ≡ false) a.pieces

-- Nothing is reported of an action of this kind, in a plain text, on a table that is new or not.
pub record IsQuietAction (settings : LinterSettings) (tree : Tree) (new : Bool) (kind : ActionKind) (a : Action) : Type 0 where
  pub detachment : (same_action kind action.DetachPartition && is_none a.word) ≡ false
  pub types : KeepsTypes a
  pub addition : (is_checked (if same_action kind action.AddConstraint then a.constraint else None) && not new) ≡ false
  pub constraints : AreQuiet settings tree new (new_constraints a)

type_work : (kind : PieceKind) → same_piece piece.SetType kind ≡ false → is_type_kind kind ≡ false
unfolding same_piece
type_work piece.SetType e = e
type_work _ e = refl

types_work : (pieces : List Piece) → AllByRecursion (λ p. same_piece piece.SetType p.kind ≡ false) pieces → changes_type pieces ≡ false
types_work pieces h =
    list_any_none (λ p. is_type_kind p.kind) pieces
    (All-from_recursion (λ p. is_type_kind p.kind ≡ false) pieces
    (each_from (λ p. same_piece piece.SetType p.kind ≡ false) (λ p. is_type_kind p.kind ≡ false) (λ p e. type_work p.kind e) pieces h))

action_work : (settings : LinterSettings) (tree : Tree) (new : Bool) (kind : ActionKind) (a : Action) → IsQuietAction settings tree new kind a → (is_work_by settings tree kind a && not new) ≡ false
unfolding same_action
action_work settings tree new action.AddConstraint a q = q.addition
action_work settings tree new action.AddColumn a q = column_work settings tree new (new_constraints a) q.constraints
action_work settings tree new action.AlterColumn a q = and_left (changes_type a.pieces) (not new) (types_work a.pieces q.types)
action_work settings tree new action.DetachPartition a q = and_left (is_none a.word) (not new) q.detachment
action_work settings tree new _ a q = refl

-- ---- work

work_young : (tree : Tree) (m : Machine) (i : ℕ) (path : Option Span) (b : Bool) (lock : LockKind) → (b && is_old tree m path) ≡ false
    → AllByRecursion IsYoung (work_if tree m i path (lock_if b lock))
work_young tree m i path true lock e = (e, tt)
work_young tree m i path false lock e = tt

actions_young : (settings : LinterSettings) (tree : Tree) (m : Machine) (i : ℕ) (path : Option Span) (new : Bool) → is_old tree m path ≡ not new → (actions : List Action)
    → AllByRecursion (λ a. IsQuietAction settings tree new a.kind a) actions → AllByRecursion IsYoung (works_of_actions settings tree m i path actions)
actions_young settings tree m i path new old actions q =
    each-flat_map IsYoung (λ a. work_if tree m i path (action_lock settings tree a)) actions
    (each_from (λ a. IsQuietAction settings tree new a.kind a) (λ a. AllByRecursion IsYoung (work_if tree m i path (action_lock settings tree a)))
    (λ a q. work_young tree m i path (is_work_by settings tree a.kind a) (lock_of_action a)
    (ap (λ b. is_work_by settings tree a.kind a && b) old ∙ action_work settings tree new a.kind a q)) actions q)

table_young : (settings : LinterSettings) (tree : Tree) (m : Machine) (i : ℕ) (path : Option Span) (new : Bool) → is_old tree m path ≡ not new → (alters : Bool) (actions : List Action)
    → AllByRecursion (λ a. IsQuietAction settings tree new a.kind a) (if alters then actions else [])
    → AllByRecursion IsYoung (works_of_actions settings tree m i (if alters then path else None) (if alters then actions else []))
table_young settings tree m i path new old true actions q = actions_young settings tree m i path new old actions q
table_young settings tree m i path new old false actions q = tt

-- ---- statements

-- Nothing is reported of a statement of this kind and body, in a plain text, on a table that is new or not.
pub record IsQuietStatement (settings : LinterSettings) (tree : Tree) (i : ℕ) (s : Stmt) (new : Bool) (kind : StmtKind) (b : Body) : Type 0 where
  pub builds : build.reports_by settings tree i s b ≡ []
  pub drops : (same_kind kind stmt.DropIndex && drops_plainly b) ≡ false
  pub rebuilds : rebuilds_plainly b ≡ false
  pub values : is_valued_reindex b ≡ false
  pub actions : AllByRecursion (λ a. IsQuietAction settings tree new a.kind a) (if same_kind kind stmt.AlterTable then actions_in b else [])

rebuild_none : (concurrent valued system some : Bool) → valued ≡ false → (not concurrent && not system) ≡ false
    → ((not concurrent || valued) && not system && some) ≡ false
rebuild_none true true system some v e = not_both v
rebuild_none true false system some v e = refl
rebuild_none false valued true some v e = refl
rebuild_none false valued false some v e = not_both e

index_young : (settings : LinterSettings) (tree : Tree) (m : Machine) (i : ℕ) (s : Stmt) (new : Bool) (kind : StmtKind) (b : Body)
    → ((path : List (List ℕ)) → is_young m path ≡ is_new settings.assume_in_transaction tree path i) → IsQuietStatement settings tree i s new kind b
    → AllByRecursion IsYoung (work_if tree m i (indexed_table b) (index_lock_by kind b))
index_young settings tree m i s new kind (body.Index word unique None guarded name path) young q =
    let cuts = path_cuts tree.text tree.toks path in
    let is_new_here = empty_unless (is_new settings.assume_in_transaction tree cuts i) (build.report tree s word) q.builds in
    (not_from_true (is_young m cuts) (young cuts ∙ is_new_here), tt)
index_young settings tree m i s new kind (body.Index word unique (Some c) guarded name path) young q = tt
index_young settings tree m i s new kind (body.Drop word concurrently guarded paths) young q =
    work_young tree m i None (same_kind kind stmt.DropIndex && not concurrently) AccessExclusive
    (and_left (same_kind kind stmt.DropIndex && not concurrently) true q.drops)
index_young settings tree m i s new kind (body.Reindex aim word concurrent valued path) young q =
    let b = (not concurrent || valued) && not (is_system aim) && is_some path in
    work_young tree m i (rebuilt_table aim path) b AccessExclusive
    (and_left b (is_old tree m (rebuilt_table aim path)) (rebuild_none concurrent valued (is_system aim) (is_some path) q.values q.rebuilds))
index_young settings tree m i s new kind _ young q = tt

pub statement_young : (settings : LinterSettings) (tree : Tree) (m : Machine) (i : ℕ) (s : Stmt) (new : Bool)
    → ((path : List (List ℕ)) → is_young m path ≡ is_new settings.assume_in_transaction tree path i) → is_old tree m (path_in s.body) ≡ not new
    → IsQuietStatement settings tree i s new s.kind s.body → AllByRecursion IsYoung (works_of settings tree m i s)
statement_young settings tree m i s new young old q =
    let alters = same_kind s.kind stmt.AlterTable in
    each-append IsYoung (work_if tree m i (indexed_table s.body) (index_lock_by s.kind s.body))
    (works_of_actions settings tree m i (if alters then path_in s.body else None) (if alters then actions_in s.body else []))
    (index_young settings tree m i s new s.kind s.body young q)
    (table_young settings tree m i (path_in s.body) new old alters (actions_in s.body) q.actions)
