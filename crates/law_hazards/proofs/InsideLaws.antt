-- In a transaction there is nothing that a transaction block refuses.
use Rattle.std.proofs.Common.{◌≡◌, ◌∙◌, sym, ap, refl, Bool, true, false, ◌&&◌, cond, [], ◌∷◌, Some, None, is_some, Contains, lt-ltb}
use Rattle.std.specs.List.{list_any}
use Rattle.std.proofs.lemmas.Bool.{false≢true}
use Rattle.law_renumber.specs.sql_keyword.declared.words.TheConstants.Keyword as keyword
use Rattle.law_renumber.specs.sql_token.Terminal.{terminals}
use Rattle.law_renumber.specs.sql_tree.declared.kinds.ActionKind.TheVariants as action
use Rattle.law_renumber.specs.sql_tree.declared.kinds.StmtKind.{StmtKind}
use Rattle.law_renumber.specs.sql_tree.declared.kinds.StmtKind.TheVariants as stmt
use Rattle.law_renumber.specs.sql_tree.declared.nodes.Action.{Action}
use Rattle.law_renumber.specs.sql_tree.declared.nodes.Body.{Body}
use Rattle.law_renumber.specs.sql_tree.declared.nodes.Body.TheVariants as body
use Rattle.law_renumber.specs.sql_tree.declared.nodes.ReindexTarget.TheVariants as target
use Rattle.law_renumber.specs.sql_tree.declared.nodes.Stmt.{Stmt}
use Rattle.law_renumber.specs.sql_tree.Statement.{Tree}
use Rattle.hazard_find.specs.lint_node.Parts.{table_actions}
use Rattle.hazard_find.specs.lint_node.Same.{same_kind}
use Rattle.hazard_find.specs.lint_transaction.Transaction.{stmt_at}
use Rattle.hazard_find.specs.hazard_base.declared.hazard.Hazard.TheVariants as hazard
use Rattle.hazard_find.specs.Laws.{TransactionsAreKept}
use Rattle.hazard_find.specs.Look.{begins}
use Rattle.hazard_find.specs.Refused.{any_moves, detaches, is_word_of, moves, refused, refused_alter, refused_by, refused_end, refused_kind}
use Rattle.hazard_find.specs.Timeouts.{discards_all}
use Rattle.law_hazards.specs.Inside.{IsRefusedByServer, IsRefusedWork}
use Rattle.law_hazards.specs.Inside.{IsRefusedByServer as server, IsRefusedWork as work}
use Rattle.law_hazards.specs.Laws.{NothingIsRefusedInside}
use Rattle.law_hazards.proofs.KindLaws.{KeepsKind, has_actions, is_server, is_system, keeps_kind}
use Rattle.law_hazards.proofs.Nodes.{action_in, action_on, any_of, both_on, else_some, kind_on, some_where, spoken, then_some}
use Rattle.law_hazards.proofs.Prepared.{commits_prepared, rolls_prepared_back}
use Rattle.law_hazards.proofs.Reading.{IsRead, read_there}
use Rattle.law_hazards.proofs.Silent.{silent}
use Rattle.law_hazards.proofs.WordLaws.{begins_so, key_begins}

either_way : {X : Type 0} (b : Bool) (x y : X) → is_some (cond b (Some x) (Some y)) ≡ true
either_way true x y = refl
either_way false x y = refl

module _ (tree : Tree) (s : Stmt) (quiet : refused tree s ≡ None) where
  -- a statement with a body of which something is said
  by_body : (b : Body) → s.body ≡ b → is_some (refused_by tree s b) ≡ true → ⊥
  unfolding refused
  by_body b has said = spoken (refused_by tree s s.body) quiet (ap (λ b. is_some (refused_by tree s b)) has ∙ said)

  no_work : ((a : Action) → Contains (table_actions s) a → detaches tree a ≡ false) → IsRefusedWork tree s → ⊥
  unfolding detaches
  no_work none (work.drops_index word guarded paths kind has) =
      by_body (body.Drop word true guarded paths) has (some_where (same_kind s.kind stmt.DropIndex && true) _ (both_on _ true (kind_on s.kind stmt.DropIndex kind) refl))
  no_work none (work.rebuilds_concurrently aim word path has) = by_body (body.Reindex aim word true false path) has refl
  no_work none (work.rebuilds_schema word concurrent valued path has) = by_body (body.Reindex target.Schema word concurrent valued path) has (either_way _ _ _)
  no_work none (work.rebuilds_database word concurrent valued path has) = by_body (body.Reindex target.Database word concurrent valued path) has (either_way _ _ _)
  no_work none (work.rebuilds_system word concurrent valued path has) = by_body (body.Reindex target.System word concurrent valued path) has (either_way _ _ _)
  no_work none (work.vacuums full tables has) = by_body (body.Vacuum full tables) has refl
  no_work none (work.clusters_all index has) = by_body (body.Cluster None index) has refl
  no_work none (work.detaches path of a word kind has is action_is word_is key) =
      let marked : is_word_of tree a.word ≡ true =
      ap (is_word_of tree) word_is ∙ (begins_so tree (keyword.CONCURRENTLY ∷ []) word word ∙ key_begins tree keyword.CONCURRENTLY word key)
      in
      false≢true (sym (none a (action_in s path of kind has a is)) ∙ both_on _ _ (action_on a.kind action.DetachPartition action_is) marked)

  -- a statement of which the tree keeps the kind alone
  by_kind : (kind : StmtKind) → s.kind ≡ kind → s.body ≡ body.Kept → is_some (refused_kind kind) ≡ true → ⊥
  by_kind kind is has said =
      by_body body.Kept has (else_some (discards_all tree s) _ (refused_kind s.kind) (ap (λ k. is_some (refused_kind k)) is ∙ said))

  system_said : (b : Body) → s.kind ≡ stmt.AlterSystem → has_actions b ≡ true → is_some (refused_by tree s b) ≡ true
  unfolding refused_alter
  system_said (body.Alter path of) kind h = then_some (same_kind s.kind stmt.AlterSystem) _ _ (kind_on s.kind stmt.AlterSystem kind)
  system_said _ kind h = absurd (false≢true h)

  kept : IsRead (terminals tree.text tree.toks) s → KeepsKind s
  kept read = keeps_kind read.own s read.is_statement

  no_server : IsRead (terminals tree.text tree.toks) s → IsRefusedByServer tree s → ⊥
  unfolding refused_kind refused_alter any_moves moves discards_all refused_end
  no_server read (server.creates_database kind) = by_kind stmt.CreateDatabase kind ((kept read).0 (ap is_server kind)) refl
  no_server read (server.drops_database kind) = by_kind stmt.DropDatabase kind ((kept read).0 (ap is_server kind)) refl
  no_server read (server.moves_database path of a kind has is words) =
      let moved : list_any (moves tree) of ≡ true = any_of (moves tree) of a is (begins_so tree (keyword.SET ∷ keyword.TABLESPACE ∷ []) a.first a.last ∙ words) in
      by_body (body.Alter path of) has
      (else_some (same_kind s.kind stmt.AlterSystem) _ _
      (some_where (same_kind s.kind stmt.AlterDatabase && list_any (moves tree) of) _ (both_on _ _ (kind_on s.kind stmt.AlterDatabase kind) moved)))
  no_server read (server.creates_tablespace kind) = by_kind stmt.CreateTablespace kind ((kept read).0 (ap is_server kind)) refl
  no_server read (server.drops_tablespace kind) = by_kind stmt.DropTablespace kind ((kept read).0 (ap is_server kind)) refl
  no_server read (server.alters_system kind) =
      by_body s.body refl (system_said s.body kind ((kept read).1 (ap is_system kind)))
  no_server read (server.discards_all kind words) =
      by_body body.Kept ((kept read).0 (ap is_server kind))
      (then_some (discards_all tree s) _ _
      (both_on _ _ (kind_on s.kind stmt.Discard kind) (begins_so tree (keyword.DISCARD ∷ keyword.ALL ∷ []) s.first s.last ∙ words)))
  no_server read (server.commits_prepared words) =
      by_body (body.End false false) (commits_prepared tree s read words)
      (then_some (begins tree (keyword.COMMIT ∷ keyword.PREPARED ∷ []) s.first s.last) _ _ (begins_so tree (keyword.COMMIT ∷ keyword.PREPARED ∷ []) s.first s.last ∙ words))
  no_server read (server.rolls_prepared_back words) =
      by_body (body.End false false) (rolls_prepared_back tree s read words)
      (else_some (begins tree (keyword.COMMIT ∷ keyword.PREPARED ∷ []) s.first s.last) _ _
      (some_where (begins tree (keyword.ROLLBACK ∷ keyword.PREPARED ∷ []) s.first s.last) _ (begins_so tree (keyword.ROLLBACK ∷ keyword.PREPARED ∷ []) s.first s.last ∙ words)))

pub nothing_is_refused_inside : TransactionsAreKept → NothingIsRefusedInside
nothing_is_refused_inside kept enabled settings tree is quiet more i l inside =
    let both = kept enabled settings tree (silent hazard.StatementInTransaction enabled settings tree quiet) (lt-ltb 1 _ more) i l inside in
    (no_work tree (stmt_at tree i) both.0 both.1, no_server tree (stmt_at tree i) both.0 (read_there tree is i l))
