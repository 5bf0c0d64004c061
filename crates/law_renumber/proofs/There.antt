-- What holds of an answer, if there is one, and of every statement of a tree.
use Rattle.std.proofs.Common.{ℕ, Bool, true, false, List, [], ◌∷◌, Option, Some, None, Result, Ok, Err, subst}
use Rattle.std.specs.Prelude.{if◌then◌else◌}
use Rattle.std.specs.Option.{option_and_then}
use Rattle.std.specs.List.{All}
use Rattle.std.proofs.lemmas.List.Elements.{All-cons, All-nil}
use Rattle.sql_token.specs.declared.token.Span.{Span}
use Rattle.sql_token.specs.declared.terminal.Terminal.{Terminal}
use Rattle.sql_token.specs.Depth.{statements, span_of}
use Rattle.sql_token.specs.Sound.{is_sound}
use Rattle.sql_token.specs.Terminal.{terminals}
use Rattle.sql_tree.specs.declared.kinds.StmtKind.{StmtKind}
use Rattle.sql_tree.specs.declared.nodes.Body.{Body}
use Rattle.sql_tree.specs.declared.nodes.Stmt.{Stmt}
use Rattle.sql_tree.specs.Forms.{either_of}
use Rattle.sql_tree.specs.Split.{all_of, and_others}
use Rattle.sql_tree.specs.Statement.{Tree, IsTree, form_of, without_semicolon, stmt_in, statement, and_then_all, all_statements, read_tokens}

abbrev pub IfThere : {X : Type 0} → (X → Type 0) → Option X → Type 0
IfThere P None = Unit {0}
IfThere P (Some x) = P x

pub then_there : {X Y : Type 0} (P : Y → Type 0) (f : X → Option Y) → ((x : X) → IfThere P (f x)) → (o : Option X) → IfThere P (option_and_then f o)
then_there P f h None = tt
then_there P f h (Some x) = h x

pub from_there : {X Y : Type 0} (P : X → Type 0) (Q : Y → Type 0) (f : X → Option Y) → ((x : X) → P x → IfThere Q (f x)) → (o : Option X) → IfThere P o → IfThere Q (option_and_then f o)
from_there P Q f h None g = tt
from_there P Q f h (Some x) g = h x g

pub either_there : {X : Type 0} (P : X → Type 0) (a b : Option X) → IfThere P a → IfThere P b → IfThere P (either_of a b)
either_there P None b h g = g
either_there P (Some x) b h g = h

pub if_there : {X : Type 0} (P : X → Type 0) (b : Bool) (o r : Option X) → IfThere P o → IfThere P r → IfThere P (if b then o else r)
if_there P true o r h g = h
if_there P false o r h g = g

others_there : {X : Type 0} (P : X → Type 0) (o : Option X) (r : Option (List X)) → IfThere P o → IfThere (All P) r → IfThere (All P) (and_others o r)
others_there P None r h g = tt
others_there P (Some x) None h g = tt
others_there P (Some x) (Some xs) h g = All-cons P x xs h g

pub all_there : {X Y : Type 0} (P : Y → Type 0) (f : X → Option Y) → ((x : X) → IfThere P (f x)) → (xs : List X) → IfThere (All P) (all_of f xs)
all_there P f h [] = All-nil P
all_there P f h (x ∷ xs) = others_there P (f x) (all_of f xs) (h x) (all_there P f h xs)

-- ---- statements

abbrev pub OfStmt : (StmtKind × Body → Type 0) → Stmt → Type 0
OfStmt P s = P (s.kind, s.body)

with_span : (P : StmtKind × Body → Type 0) (span : Span) (o : Option (StmtKind × Body)) → IfThere P o → IfThere (OfStmt P) (option_and_then (λ f. Some (stmt_in span f)) o)
with_span P span None h = tt
with_span P span (Some f) h = h

abbrev AllThere : (Stmt → Type 0) → Result (List Stmt) ℕ → Type 0
AllThere Q (Ok ss) = All Q ss
AllThere Q (Err n) = Unit {0}

followed_there : (Q : Stmt → Type 0) (o : Option Stmt) (n : ℕ) (r : Result (List Stmt) ℕ) → IfThere Q o → AllThere Q r → AllThere Q (and_then_all o n r)
followed_there Q None n r h others = tt
followed_there Q (Some s) n (Ok ss) h others = All-cons Q s ss h others
followed_there Q (Some s) n (Err m) h others = tt

module _ (P : StmtKind × Body → Type 0) (form : (ts : List Terminal) → IfThere P (form_of ts)) where
  statement_there : (ts : List Terminal) → IfThere (OfStmt P) (statement ts)
  unfolding statement
  statement_there ts =
      if_there (OfStmt P) (is_sound ts) _ None (with_span P (span_of ts) (form_of (without_semicolon ts)) (form (without_semicolon ts))) tt

  statements_there : (tss : List (List Terminal)) → AllThere (OfStmt P) (all_statements tss)
  statements_there [] = All-nil (OfStmt P)
  statements_there (ts ∷ others) =
      followed_there (OfStmt P) (statement ts) (span_of ts).first (all_statements others) (statement_there ts) (statements_there others)

  tokens_there : (tree : Tree) → AllThere (OfStmt P) (read_tokens tree.text tree.toks)
  unfolding read_tokens
  tokens_there tree = statements_there (statements (terminals tree.text tree.toks))

  -- What holds of every form holds of every statement of a tree.
  pub tree_there : (tree : Tree) → IsTree tree → All (OfStmt P) tree.stmts
  tree_there tree is = subst (AllThere (OfStmt P)) is.read (tokens_there tree)
