-- What is written anew is a table of ours.
use Rattle.std.proofs.Common.{◌≡◌, ◌<◌, ◌∙◌, sym, ap, refl, ℕ, Bool, true, false, ◌&&◌, ◌||◌, not, List, [], ◌∷◌, codes, length, Option, Some, None, is_some, eq-eqb}
use Rattle.std.specs.Prelude.{nat_eq}
use Rattle.std.specs.List.{list_any}
use Rattle.std.specs.Str.{bytes_eq}
use Rattle.std.proofs.lemmas.Bool.{false_from_ne_true, not_from_false, false≢true}
use Rattle.law_renumber.specs.sql_keyword.declared.words.TheConstants.Keyword as keyword
use Rattle.law_renumber.specs.sql_token.declared.token.Span.{Span}
use Rattle.law_renumber.specs.sql_token.Terminal.{terminals}
use Rattle.law_renumber.specs.sql_tree.declared.kinds.ActionKind.{ActionKind}
use Rattle.law_renumber.specs.sql_tree.declared.kinds.ActionKind.TheVariants as action
use Rattle.law_renumber.specs.sql_tree.declared.kinds.PieceKind.TheVariants as piece
use Rattle.law_renumber.specs.sql_tree.declared.nodes.Action.{Action}
use Rattle.law_renumber.specs.sql_tree.declared.nodes.Body.{Body}
use Rattle.law_renumber.specs.sql_tree.declared.nodes.Body.TheVariants as body
use Rattle.law_renumber.specs.sql_tree.declared.nodes.ColType.{ColType}
use Rattle.law_renumber.specs.sql_tree.declared.nodes.Column.{Column}
use Rattle.law_renumber.specs.sql_tree.declared.nodes.Piece.{Piece}
use Rattle.law_renumber.specs.sql_tree.declared.nodes.ReindexTarget.TheVariants as target
use Rattle.law_renumber.specs.sql_tree.declared.nodes.Stmt.{Stmt}
use Rattle.law_renumber.specs.sql_tree.Statement.{IsTree, Tree}
use Rattle.hazard_find.specs.lint_base.declared.settings.LinterSettings.{LinterSettings}
use Rattle.hazard_find.specs.lint_node.Same.{same_piece}
use Rattle.hazard_find.specs.lint_transaction.Names.{is_listed, name_at}
use Rattle.hazard_find.specs.lint_transaction.Transaction.{stmt_at}
use Rattle.hazard_find.specs.hazard_base.declared.hazard.Hazard.TheVariants as hazard
use Rattle.hazard_find.specs.hazard_base.declared.hazard_set.HazardSet.{HazardSet}
use Rattle.hazard_find.specs.Earlier.{is_assumed, is_old}
use Rattle.hazard_find.specs.Here.{has_repack, known_at, table_by, table_of}
use Rattle.hazard_find.specs.Look.{begins}
use Rattle.hazard_find.specs.Laws.{TablesAreKept}
use Rattle.hazard_find.specs.Refused.{moves}
use Rattle.hazard_find.specs.Rewrites.{action_rewrites, action_rewrites_by, adds_serial, is_number_serial, is_serial_path, is_serial_type, is_word_serial, other_rewrites, rewrites, rewrites_by, sets_access_method, sets_expression, sets_logged, sets_unlogged}
use Rattle.law_hazards.specs.Laws.{OnlyOursAreRewritten}
use Rattle.law_hazards.specs.Rewriting.{ActionRewrites, IsBeforeRepack, Rewrites, serial_names}
use Rattle.law_hazards.specs.Rewriting.{ActionRewrites as does, Rewrites as way}
use Rattle.law_hazards.specs.Silence.{IsNotFound, begins_inside}
use Rattle.law_hazards.specs.Tables.{IsOurs}
use Rattle.law_hazards.specs.Words.{action_tokens}
use Rattle.law_hazards.proofs.ActionReading.{IsReadAction, action_read}
use Rattle.law_hazards.proofs.Nodes.{action_in, any_of, both_on, else_some, piece_on, some_where, spoken, table_is, then_some, type_is}
use Rattle.law_hazards.proofs.OtherActions.{access_form, logged_form, other_kind, tablespace_form, two_words, unlogged_form}
use Rattle.law_hazards.proofs.Reading.{read_there}
use Rattle.law_hazards.proofs.Silent.{none_rewrites, silent}
use Rattle.law_hazards.proofs.TableLaws.{ours}
use Rattle.law_hazards.proofs.WordLaws.{begins_so}

-- ---- actions

module _ (tree : Tree) (a : Action) (quiet : action_rewrites tree a ≡ None) where
  by_kind : (kind : ActionKind) → a.kind ≡ kind → is_some (action_rewrites_by tree kind a) ≡ true → ⊥
  unfolding action_rewrites
  by_kind kind is said = spoken (action_rewrites_by tree a.kind a) quiet (ap (λ k. is_some (action_rewrites_by tree k a)) is ∙ said)

  by_other : a.kind ≡ action.Other → is_some (other_rewrites tree a) ≡ true → ⊥
  by_other is said = by_kind action.Other is said

-- the serial types, of each of their names
serial_on : (one a b c d f g : Bool) → one ≡ true → (a || (b || (c || (d || (f || (g || false)))))) ≡ true
    → (((one && a) || (one && b) || (one && c)) || ((one && d) || (one && f) || (one && g))) ≡ true
serial_on true true b c d f g is h = refl
serial_on true false true c d f g is h = refl
serial_on true false false true d f g is h = refl
serial_on true false false false true f g is h = refl
serial_on true false false false false true g is h = refl
serial_on true false false false false false true is h = refl
serial_on true false false false false false false is h = absurd (false≢true h)
serial_on false a b c d f g is h = absurd (false≢true is)

serial_path : (tree : Tree) (path : Span) → path.first ≡ path.last → is_listed serial_names tree path.first ≡ true → is_serial_path tree path ≡ true
unfolding is_word_serial is_number_serial
serial_path tree path one h =
    let is : List ℕ → Bool = λ name. bytes_eq name (name_at tree path.first) in
    serial_on (nat_eq path.first path.last) (is (codes "serial")) (is (codes "smallserial")) (is (codes "bigserial")) (is (codes "serial4")) (is (codes "serial2"))
    (is (codes "serial8")) (eq-eqb path.first path.last one) h

no_serial : (tree : Tree) (a : Action) (c : Column) (t : ColType) → adds_serial tree a ≡ false → a.kind ≡ action.AddColumn → a.column ≡ Some c → c.ty ≡ Some t
    → t.array ≡ false → t.inner.first ≡ t.inner.last → is_listed serial_names tree t.inner.first ≡ true → ⊥
unfolding adds_serial
no_serial tree a c t quiet adds has ty array one listed =
    false≢true
    (sym quiet ∙ (ap (is_serial_type tree) (type_is a c adds has t ty)
    ∙ both_on (not t.array) (is_serial_path tree t.inner) (not_from_false t.array array) (serial_path tree t.inner one listed)))

no_action : (tree : Tree) (a : Action) → IsReadAction (terminals tree.text tree.toks) a → action_rewrites tree a ≡ None → adds_serial tree a ≡ false → ActionRewrites tree a → ⊥
unfolding other_rewrites sets_logged sets_unlogged sets_access_method sets_expression moves
no_action tree a read quiet none (does.logged words) =
    by_other tree a quiet (other_kind keyword.LOGGED logged_form tree a read words)
    (then_some (begins tree (keyword.SET ∷ keyword.LOGGED ∷ []) a.first a.last) _ _ (begins_so tree (keyword.SET ∷ keyword.LOGGED ∷ []) a.first a.last ∙ words))
no_action tree a read quiet none (does.unlogged words) =
    by_other tree a quiet (other_kind keyword.UNLOGGED unlogged_form tree a read words)
    (else_some (begins tree (keyword.SET ∷ keyword.LOGGED ∷ []) a.first a.last) _ _
    (then_some (begins tree (keyword.SET ∷ keyword.UNLOGGED ∷ []) a.first a.last) _ _ (begins_so tree (keyword.SET ∷ keyword.UNLOGGED ∷ []) a.first a.last ∙ words)))
no_action tree a read quiet none (does.tablespace words) =
    by_other tree a quiet (other_kind keyword.TABLESPACE tablespace_form tree a read words)
    (else_some (begins tree (keyword.SET ∷ keyword.LOGGED ∷ []) a.first a.last) _ _
    (else_some (begins tree (keyword.SET ∷ keyword.UNLOGGED ∷ []) a.first a.last) _ _
    (then_some (begins tree (keyword.SET ∷ keyword.TABLESPACE ∷ []) a.first a.last) _ _ (begins_so tree (keyword.SET ∷ keyword.TABLESPACE ∷ []) a.first a.last ∙ words))))
no_action tree a read quiet none (does.access_method words) =
    by_other tree a quiet
    (other_kind keyword.ACCESS access_form tree a read (two_words tree.text keyword.SET keyword.ACCESS keyword.METHOD (action_tokens tree a) words))
    (else_some (begins tree (keyword.SET ∷ keyword.LOGGED ∷ []) a.first a.last) _ _
    (else_some (begins tree (keyword.SET ∷ keyword.UNLOGGED ∷ []) a.first a.last) _ _
    (else_some (begins tree (keyword.SET ∷ keyword.TABLESPACE ∷ []) a.first a.last) _ _
    (then_some (begins tree (keyword.SET ∷ keyword.ACCESS ∷ keyword.METHOD ∷ []) a.first a.last) _ _
    (begins_so tree (keyword.SET ∷ keyword.ACCESS ∷ keyword.METHOD ∷ []) a.first a.last ∙ words)))))
no_action tree a read quiet none (does.expression p is in_a set) =
    by_kind tree a quiet action.AlterColumn is
    (some_where (list_any (λ (q : Piece). same_piece q.kind piece.SetExpression) a.pieces) _
    (any_of (λ (q : Piece). same_piece q.kind piece.SetExpression) a.pieces p in_a (piece_on p.kind piece.SetExpression set)))
no_action tree a read quiet none (does.serial c t adds has ty array one listed) = no_serial tree a c t none adds has ty array one listed

-- ---- statements

by_body : (settings : LinterSettings) (tree : Tree) (i : ℕ) (s : Stmt) → rewrites (known_at settings tree i) s ≡ None → (b : Body) → s.body ≡ b
    → is_some (rewrites_by (known_at settings tree i) b) ≡ true → ⊥
unfolding rewrites
by_body settings tree i s quiet b has said =
    spoken (rewrites_by (known_at settings tree i) s.body) quiet (ap (λ b. is_some (rewrites_by (known_at settings tree i) b)) has ∙ said)

repack_known : (settings : LinterSettings) (tree : Tree) (i : ℕ) → (known_at settings tree i).has_repack ≡ has_repack settings
unfolding known_at
repack_known settings tree i = refl

old_known : (settings : LinterSettings) (tree : Tree) (i : ℕ) → (known_at settings tree i).is_old ≡ is_old (is_assumed settings tree) tree i (table_of (stmt_at tree i))
unfolding known_at
old_known settings tree i = refl

cluster_table : (s : Stmt) (table : Option Span) (index : Option ℕ) → s.body ≡ body.Cluster table index → table_of s ≡ table
unfolding table_of
cluster_table s table index has = ap (table_by s) has

-- a table that the statement names, and that is not old
pub named_ours : (settings : LinterSettings) (tree : Tree) (i : ℕ) (table : Option Span) → table_of (stmt_at tree i) ≡ table
    → (is_old (is_assumed settings tree) tree i (table_of (stmt_at tree i)) ≡ true → ⊥) → IsOurs (begins_inside settings tree) tree i table
named_ours settings tree i table is not_old =
    ours (is_assumed settings tree) tree i table
    (ap (is_old (is_assumed settings tree) tree i) (sym is) ∙ false_from_ne_true (is_old (is_assumed settings tree) tree i (table_of (stmt_at tree i))) not_old)

module _ (kept : TablesAreKept) (enabled : HazardSet) (settings : LinterSettings) (tree : Tree) (read : IsTree tree)
    (quiet : IsNotFound hazard.TableRewrite enabled settings tree) (i : ℕ) (l : i < length tree.stmts) where
  before : IsBeforeRepack settings → not (known_at settings tree i).has_repack ≡ true
  before h = not_from_false _ (repack_known settings tree i ∙ h)

  said_none : rewrites (known_at settings tree i) (stmt_at tree i) ≡ None
  said_none = none_rewrites enabled settings tree quiet i l

  ours_at : (table : Option Span) → Rewrites settings tree (stmt_at tree i) table → IsOurs (begins_inside settings tree) tree i table
  ours_at _ (way.vacuums tables early has) =
      absurd (by_body settings tree i (stmt_at tree i) said_none (body.Vacuum true tables) has (some_where (true && not (known_at settings tree i).has_repack) _ (before early)))
  ours_at _ (way.rebuilds_system word concurrent valued path has) =
      absurd (by_body settings tree i (stmt_at tree i) said_none (body.Reindex target.System word concurrent valued path) has refl)
  ours_at _ (way.clusters table index early has) =
      named_ours settings tree i table (cluster_table (stmt_at tree i) table index has)
      (λ old. by_body settings tree i (stmt_at tree i) said_none (body.Cluster table index) has
      (some_where ((known_at settings tree i).is_old && not (known_at settings tree i).has_repack) _ (both_on _ _ (old_known settings tree i ∙ old) (before early))))
  ours_at _ (way.alters table of a kind has is rewrites_table) =
      named_ours settings tree i table (table_is (stmt_at tree i) table of kind has)
      (λ old. let both = kept enabled settings tree (silent hazard.TableRewrite enabled settings tree quiet) i l old a (action_in (stmt_at tree i) table of kind has a is) in
      no_action tree a (action_read (terminals tree.text tree.toks) (stmt_at tree i) (read_there tree read i l) kind table of has a is) both.0 both.1 rewrites_table)

pub only_ours_are_rewritten : TablesAreKept → OnlyOursAreRewritten
only_ours_are_rewritten kept enabled settings tree read quiet i table l does_so = ours_at kept enabled settings tree read quiet i l table does_so
