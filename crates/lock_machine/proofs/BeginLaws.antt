-- In a tree that is read from a text a BEGIN keeps nothing, so it ends nothing and creates nothing.
use Rattle.std.proofs.Common.{◌≡◌, ◌∙◌, sym, ap, refl, arith, ℕ, zero, suc, Bool, true, false, List, [], ◌∷◌, Option, Some, None, Result, Ok, Err, subst}
use Rattle.std.specs.Prelude.{slice_index_or, if◌then◌else◌}
use Rattle.std.specs.Option.{option_and_then}
use Rattle.lint_pass.specs.sql_keyword.declared.words.TheConstants.Keyword as keyword
use Rattle.lint_pass.specs.sql_token.declared.token.Span.{Span}
use Rattle.lint_pass.specs.sql_token.declared.terminal.Terminal.{Terminal}
use Rattle.lint_pass.specs.sql_token.Depth.{statements, span_of, has_keyword}
use Rattle.lint_pass.specs.sql_token.Sound.{is_sound}
use Rattle.lint_pass.specs.sql_token.Terminal.{terminals}
use Rattle.sql_tree.specs.declared.kinds.StmtKind.{StmtKind}
use Rattle.sql_tree.specs.declared.kinds.StmtKind.TheVariants as stmt
use Rattle.sql_tree.specs.declared.nodes.Body.{Body}
use Rattle.sql_tree.specs.declared.nodes.Body.TheVariants as body
use Rattle.sql_tree.specs.declared.nodes.Stmt.{Stmt}
use Rattle.sql_tree.specs.Forms.{State}
use Rattle.sql_tree.specs.Statement.{Tree, IsTree, final_kind, body_shape_of, body_by, kind_and_body, front_by, from_verb, form_from, form_of, without_semicolon, stmt_in, statement, and_then_all, all_statements, read_tokens}
use Rattle.lint_pass.specs.lint_transaction.Transaction.{is_begin_kind, begins, ends_by, created_by, no_stmt, stmt_at}
use Rattle.lock_machine.specs.Laws.{BeginsAlone}

pub not_both : {A : Type 0} → true ≡ false → A
not_both e = absurd (grind (arith, e))

-- ---- one form

abbrev IsAlone : Option (StmtKind × Body) → Type 0
IsAlone None = Unit {0}
IsAlone (Some f) = is_begin_kind f.0 ≡ true → f.1 ≡ body.Kept

no_begin : (b : Bool) → is_begin_kind (if b then stmt.CreateTableAs else stmt.CreateTable) ≡ false
no_begin true = refl
no_begin false = refl

kind_stays : (kind : StmtKind) (s : State) → is_begin_kind (final_kind kind s) ≡ is_begin_kind kind
unfolding final_kind
kind_stays stmt.CreateTable s = no_begin (has_keyword keyword.AS s.left)
kind_stays kind s = refl

body_kept : (kind : StmtKind) (s : State) (ts : List Terminal) → is_begin_kind kind ≡ true → body_by (body_shape_of kind) kind s ts ≡ Some body.Kept
unfolding body_shape_of body_by
body_kept stmt.Begin s ts h = refl
body_kept _ s ts h = not_both (sym h)

abbrev or_kept : Option Body → Body
or_kept None = body.Kept
or_kept (Some b) = b

with_body : (kind : StmtKind) (o : Option Body) → (is_begin_kind kind ≡ true → o ≡ Some body.Kept) → IsAlone (option_and_then (λ b. Some (kind, b)) o)
with_body kind None h = tt
with_body kind (Some b) h = λ e. ap or_kept (h e)

state_alone : (ts : List Terminal) (f : StmtKind × State) → IsAlone (kind_and_body ts f)
unfolding kind_and_body
state_alone ts f =
    with_body (final_kind f.0 f.1) (body_by (body_shape_of f.0) f.0 f.1 ts) (λ e. body_kept f.0 f.1 ts (sym (kind_stays f.0 f.1) ∙ e))

front_alone : (ts : List Terminal) (o : Option (StmtKind × State)) → IsAlone (option_and_then (kind_and_body ts) o)
front_alone ts None = tt
front_alone ts (Some f) = state_alone ts f

form_from_alone : (ts : List Terminal) → IsAlone (form_from ts)
unfolding form_from
form_from_alone [] = λ e. refl
form_from_alone (t ∷ ts) = front_alone ts (front_by t.symbol ts)

form_of_alone : (ts : List Terminal) → IsAlone (form_of ts)
unfolding form_of
form_of_alone [] = λ e. refl
form_of_alone (t ∷ ts) = form_from_alone (from_verb (t ∷ ts))

-- ---- statements

abbrev KeepsNone : Stmt → Type 0
KeepsNone s = begins s ≡ true → s.body ≡ body.Kept

abbrev EachKeeps : Option Stmt → Type 0
EachKeeps None = Unit {0}
EachKeeps (Some s) = KeepsNone s

sound_alone : (sound : Bool) (span : Span) (o : Option (StmtKind × Body)) → IsAlone o
    → EachKeeps (if sound then option_and_then (λ f. Some (stmt_in span f)) o else None)
sound_alone true span None h = tt
sound_alone true span (Some f) h = h
sound_alone false span o h = tt

statement_alone : (ts : List Terminal) → EachKeeps (statement ts)
unfolding statement
statement_alone ts = sound_alone (is_sound ts) (span_of ts) (form_of (without_semicolon ts)) (form_of_alone (without_semicolon ts))

abbrev AllKeep : Result (List Stmt) ℕ → Type 0
AllKeep (Ok ss) = (j : ℕ) → KeepsNone (slice_index_or ss j no_stmt)
AllKeep (Err n) = Unit {0}

cons_keeps : (s : Stmt) (ss : List Stmt) → KeepsNone s → ((j : ℕ) → KeepsNone (slice_index_or ss j no_stmt)) → (j : ℕ) → KeepsNone (slice_index_or (s ∷ ss) j no_stmt)
cons_keeps s ss h others zero = h
cons_keeps s ss h others (suc j) = others j

followed_keep : (o : Option Stmt) (n : ℕ) (r : Result (List Stmt) ℕ) → EachKeeps o → AllKeep r → AllKeep (and_then_all o n r)
followed_keep None n r h others = tt
followed_keep (Some s) n (Ok ss) h others = cons_keeps s ss h others
followed_keep (Some s) n (Err m) h others = tt

empty_keeps : (j : ℕ) → KeepsNone (slice_index_or [] j no_stmt)
empty_keeps zero e = refl
empty_keeps (suc j) e = refl

all_keep : (tss : List (List Terminal)) → AllKeep (all_statements tss)
all_keep [] = empty_keeps
all_keep (ts ∷ others) = followed_keep (statement ts) (span_of ts).first (all_statements others) (statement_alone ts) (all_keep others)

tokens_keep : (tree : Tree) → AllKeep (read_tokens tree.text tree.toks)
unfolding read_tokens
tokens_keep tree = all_keep (statements (terminals tree.text tree.toks))

pub begins_alone : (tree : Tree) → IsTree tree → BeginsAlone tree
begins_alone tree is j e =
    let kept = subst AllKeep is.read (tokens_keep tree) j e in
    (ap ends_by kept, ap (created_by (stmt_at tree j).kind) kept)
