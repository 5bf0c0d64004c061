-- Which statement a list of terminals is, and the tree of a text.
use Rattle.std.specs.Prelude.{◌≡◌, ◌<◌, ℕ, ◌-◌, ◌^◌, take, List, [], ◌∷◌, length, slice_index_or, not, if◌then◌else◌, Option, Some, None, is_some, Result, Ok, Err}
use Rattle.std.specs.Option.{option_and_then}
use Rattle.sql_token.specs.sql_keyword.declared.words.TheConstants.Keyword as keyword
use Rattle.sql_token.specs.declared.token.Span.{Span}
use Rattle.sql_token.specs.declared.token.Tok.{Tok}
use Rattle.sql_token.specs.declared.token.TokKind.TheVariants as kinds
use Rattle.sql_token.specs.declared.terminal.Symbol.{Symbol}
use Rattle.sql_token.specs.declared.terminal.Symbol.TheVariants as symbol
use Rattle.sql_token.specs.declared.terminal.Terminal.{Terminal}
use Rattle.sql_token.specs.Token.{Text, Lexed}
use Rattle.sql_token.specs.Terminal.{terminals, is_semicolon, is_keyword}
use Rattle.sql_token.specs.Depth.{statements, span_of, has_keyword, nothing}
use Rattle.sql_token.specs.Sound.{is_sound}
use Rattle.sql_tree.specs.declared.kinds.StmtKind.{StmtKind}
use Rattle.sql_tree.specs.declared.kinds.StmtKind.TheVariants as stmt
use Rattle.sql_tree.specs.declared.forms.Captures.{Captures}
use Rattle.sql_tree.specs.declared.nodes.Body.{Body}
use Rattle.sql_tree.specs.declared.nodes.Body.TheVariants as body
use Rattle.sql_tree.specs.declared.nodes.Stmt.{Stmt}
use Rattle.sql_tree.specs.declared.forms.BodyShape.{BodyShape}
use Rattle.sql_tree.specs.declared.forms.BodyShape.TheVariants as shape
use Rattle.sql_tree.specs.Forms.{State, led_by, anything}
use Rattle.sql_tree.specs.Split.{from_mark, verb}
use Rattle.sql_tree.specs.Action.{actions_of}
use Rattle.sql_tree.specs.Column.{elements, drops_on_commit, domain_constraints}
use Rattle.sql_tree.specs.Write.{targets, view_definition, table_write}
use Rattle.sql_tree.specs.Tails.{paths_from, reindex, last_cascade, parameter, lock_mode, is_full_vacuum, vacuum_tables}

abbrev pub last_of : List Terminal → Terminal
last_of ts = slice_index_or ts (length ts - 1) nothing

-- a statement's terminals without its semicolon
abbrev pub without_semicolon : List Terminal → List Terminal
without_semicolon ts = if is_semicolon (last_of ts) then take (length ts - 1) ts else ts

-- ---- what is known of a statement whose front was read

-- CREATE TABLE with the word AS after its path makes its rows by a query.
abbrev pub table_kind : List Terminal → StmtKind
table_kind tail = if has_keyword keyword.AS tail then stmt.CreateTableAs else stmt.CreateTable

unfoldable pub final_kind : StmtKind → State → StmtKind
final_kind stmt.CreateTable s = table_kind s.left
final_kind kind s = kind

unfoldable pub body_shape_of : StmtKind → BodyShape
body_shape_of stmt.Commit = shape.End
body_shape_of stmt.Rollback = shape.End
body_shape_of stmt.CreateTable = shape.Table
body_shape_of stmt.CreateForeignTable = shape.Table
body_shape_of stmt.SelectInto = shape.Into
body_shape_of stmt.CreateIndex = shape.Index
body_shape_of stmt.DropIndex = shape.Drop
body_shape_of stmt.DropTable = shape.Drop
body_shape_of stmt.DropType = shape.Drop
body_shape_of stmt.Reindex = shape.Reindex
body_shape_of stmt.AlterAggregate = shape.Alter
body_shape_of stmt.AlterDatabase = shape.Alter
body_shape_of stmt.AlterDefaultPrivileges = shape.Alter
body_shape_of stmt.AlterDomain = shape.Alter
body_shape_of stmt.AlterExtension = shape.Alter
body_shape_of stmt.AlterForeignTable = shape.Alter
body_shape_of stmt.AlterFunction = shape.Alter
body_shape_of stmt.AlterGroup = shape.Alter
body_shape_of stmt.AlterIndex = shape.Alter
body_shape_of stmt.AlterMaterializedView = shape.Alter
body_shape_of stmt.AlterPolicy = shape.Alter
body_shape_of stmt.AlterProcedure = shape.Alter
body_shape_of stmt.AlterPublication = shape.Alter
body_shape_of stmt.AlterRole = shape.Alter
body_shape_of stmt.AlterRoutine = shape.Alter
body_shape_of stmt.AlterSchema = shape.Alter
body_shape_of stmt.AlterSequence = shape.Alter
body_shape_of stmt.AlterSystem = shape.Alter
body_shape_of stmt.AlterTable = shape.Alter
body_shape_of stmt.AlterTrigger = shape.Alter
body_shape_of stmt.AlterType = shape.Alter
body_shape_of stmt.AlterUser = shape.Alter
body_shape_of stmt.AlterView = shape.Alter
body_shape_of stmt.CreateDomain = shape.Domain
body_shape_of stmt.CreateType = shape.Made
body_shape_of stmt.CreateSequence = shape.Made
body_shape_of stmt.CreateView = shape.View
body_shape_of stmt.CreateMaterializedView = shape.View
body_shape_of stmt.CreateFunction = shape.Code
body_shape_of stmt.CreateProcedure = shape.Code
body_shape_of stmt.CreateTrigger = shape.Code
body_shape_of stmt.CreateRule = shape.Code
body_shape_of stmt.CreateAggregate = shape.Code
body_shape_of stmt.Truncate = shape.Truncate
body_shape_of stmt.Set = shape.Setting
body_shape_of stmt.Lock = shape.Locking
body_shape_of stmt.Refresh = shape.Refresh
body_shape_of stmt.Vacuum = shape.Vacuum
body_shape_of stmt.Cluster = shape.Cluster
body_shape_of stmt.Insert = shape.Write
body_shape_of stmt.Update = shape.Write
body_shape_of stmt.Merge = shape.Write
body_shape_of _ = shape.Kept

abbrev pub table_body : State → Option Body
table_body s =
    option_and_then (λ word. option_and_then (λ path.
    Some (body.Table s.kept.temp s.kept.guarded (drops_on_commit s.left) word path (elements s.left))) s.kept.path) s.kept.word

abbrev pub index_body : Captures → Option Body
index_body c =
    option_and_then (λ word. option_and_then (λ path.
    Some (body.Index word c.unique c.concurrently c.guarded c.name path)) c.path) c.word

-- the table of SELECT INTO, and what it gives, by what follows the word SELECT
abbrev pub into_body : Captures → List Terminal → Option Body
into_body c query = option_and_then (λ path. Some (body.Into path (targets query))) c.path

-- the paths of DROP: the first one and those that follow
abbrev pub drop_body : State → Option Body
drop_body s =
    option_and_then (λ word. option_and_then (λ path.
    Some (body.Drop word (is_some s.kept.concurrently) s.kept.guarded (paths_from path.first path.last s.left))) s.kept.path) s.kept.word

abbrev pub alter_body : StmtKind → State → Option Body
alter_body kind s = option_and_then (λ actions. Some (body.Alter s.kept.path actions)) (actions_of kind s.left)

abbrev pub domain_body : List Terminal → Option Body
domain_body tail = option_and_then (λ constraints. Some (body.Domain constraints)) (domain_constraints tail)

abbrev pub made_body : Captures → Option Body
made_body c = option_and_then (λ path. Some (body.Made path c.guarded)) c.path

abbrev pub end_body : Captures → Body
end_body c = body.End (not c.not_plain) c.chain

abbrev pub view_body : State → Body
view_body s = body.View (view_definition s.kept.replace s.left)

abbrev pub vacuum_body : List Terminal → Body
vacuum_body tail = body.Vacuum (is_full_vacuum tail) (vacuum_tables tail)

abbrev pub cluster_body : Captures → Body
cluster_body c = body.Cluster c.path c.name

abbrev pub write_body : StmtKind → State → Option Body
write_body kind s = option_and_then (λ path. Some (body.Write (table_write kind path s.left))) s.kept.path

-- What the form of a kind keeps, by what follows the first word: None where the tail is none of its kind.
unfoldable pub body_by : BodyShape → StmtKind → State → List Terminal → Option Body
body_by shape.Kept kind s ts = Some body.Kept
body_by shape.End kind s ts = Some (end_body s.kept)
body_by shape.Table kind s ts = table_body s
body_by shape.Into kind s ts = into_body s.kept ts
body_by shape.Index kind s ts = index_body s.kept
body_by shape.Drop kind s ts = drop_body s
body_by shape.Reindex kind s ts = reindex s.left
body_by shape.Alter kind s ts = alter_body kind s
body_by shape.Domain kind s ts = domain_body s.left
body_by shape.Made kind s ts = made_body s.kept
body_by shape.View kind s ts = Some (view_body s)
body_by shape.Code kind s ts = Some (body.Code s.kept.replace)
body_by shape.Truncate kind s ts = Some (body.Truncate (last_cascade s.left))
body_by shape.Setting kind s ts = Some (body.Setting (parameter s.left))
body_by shape.Locking kind s ts = Some (body.Locking (lock_mode s.left))
body_by shape.Refresh kind s ts = Some (body.Refresh (is_some s.kept.concurrently))
body_by shape.Vacuum kind s ts = Some (vacuum_body s.left)
body_by shape.Cluster kind s ts = Some (cluster_body s.kept)
body_by shape.Write kind s ts = write_body kind s

-- the kind and the body of a statement of which so much was kept and left, of those terminals after its first word
unfoldable pub kind_and_body : List Terminal → StmtKind × State → Option (StmtKind × Body)
kind_and_body ts f = option_and_then (λ b. Some (final_kind f.0 f.1, b)) (body_by (body_shape_of f.0) f.0 f.1 ts)

-- ---- the first word

-- the kind of a statement that begins with this symbol, and what its form keeps of what follows
unfoldable pub front_by : Symbol → List Terminal → Option (StmtKind × State)
front_by (symbol.Keyword w) ts = led_by w ts
front_by symbol.OpenRound ts = Some (anything stmt.ParenSelect ts)
front_by _ ts = None

-- A statement led by WITH is read from its verb on, the first one at depth 0.
unfoldable pub from_verb : List Terminal → List Terminal
from_verb [] = []
from_verb (t ∷ ts) = if is_keyword keyword.WITH t then from_mark verb ts else t ∷ ts

-- Without a verb it is a SELECT of which nothing is known.
unfoldable pub form_from : List Terminal → Option (StmtKind × Body)
form_from [] = Some (stmt.Select, body.Kept)
form_from (t ∷ ts) = option_and_then (kind_and_body ts) (front_by t.symbol ts)

-- the kind of a statement without its semicolon, and what is known of it
unfoldable pub form_of : List Terminal → Option (StmtKind × Body)
form_of [] = Some (stmt.Empty, body.Kept)
form_of (t ∷ ts) = form_from (from_verb (t ∷ ts))

-- ---- statements and trees

abbrev pub stmt_in : Span → StmtKind × Body → Stmt
stmt_in span f = record { kind = f.0; first = span.first; last = span.last; body = f.1 }

-- The statement that these terminals are: None where they are not sound or have no form.
unfoldable pub statement : List Terminal → Option Stmt
statement ts =
    if is_sound ts then option_and_then (λ f. Some (stmt_in (span_of ts) f)) (form_of (without_semicolon ts)) else None

abbrev pub followed_by : Stmt → Result (List Stmt) ℕ → Result (List Stmt) ℕ
followed_by s (Ok ss) = Ok (s ∷ ss)
followed_by s (Err n) = Err n

abbrev pub and_then_all : Option Stmt → ℕ → Result (List Stmt) ℕ → Result (List Stmt) ℕ
and_then_all None n others = Err n
and_then_all (Some s) n others = followed_by s others

-- All statements, or the number of the first token of the first one that is none.
abbrev pub all_statements : List (List Terminal) → Result (List Stmt) ℕ
all_statements [] = Ok []
all_statements (ts ∷ others) = and_then_all (statement ts) (span_of ts).first (all_statements others)

unfoldable pub read_tokens : Text → List Tok → Result (List Stmt) ℕ
read_tokens t toks = all_statements (statements (terminals t toks))

-- ---- texts

-- A text with its tokens and its statements.
pub record Tree : Type 0 where
  pub text : Text
  pub toks : List Tok
  pub stmts : List Stmt

-- These are the tokens of the text, and this is its tree.
pub record IsTree (tree : Tree) : Type 0 where
  pub short : length tree.text < 2 ^ 32
  pub lexed : Lexed tree.text tree.toks
  pub read : read_tokens tree.text tree.toks ≡ Ok tree.stmts

-- The text is short enough, and each of its statements is sound and has a form.
abbrev pub IsValid : Text → Type 0
IsValid t = (tree : Tree) × (tree.text ≡ t) × IsTree tree

abbrev pub no_token : Tok
no_token = record { kind = kinds.Other; start = 0; end = 0 }

-- The first statement of the text that is not sound or has no form begins at this byte.
pub record IsSyntaxAt (t : Text) (at : ℕ) : Type 0 where
  pub toks : List Tok
  pub number : ℕ
  pub short : length t < 2 ^ 32
  pub lexed : Lexed t toks
  pub refused : read_tokens t toks ≡ Err number
  pub place : at ≡ (slice_index_or toks number no_token).start

-- A text has at most one tree.
abbrev pub OneTree : Type 0
OneTree = (a b : Tree) → a.text ≡ b.text → IsTree a → IsTree b → a ≡ b

-- A text has at most one first statement that is not sound or has no form.
abbrev pub OneFault : Type 0
OneFault = (t : Text) (a b : ℕ) → IsSyntaxAt t a → IsSyntaxAt t b → a ≡ b

-- A text that has a tree has no such statement.
abbrev pub NeverTreeAndFault : Type 0
NeverTreeAndFault = (a : Tree) (t : Text) (at : ℕ) → a.text ≡ t → IsTree a → IsSyntaxAt t at → ⊥
