-- Kinds of statements, and what a tree keeps of them.
use Rattle.std.proofs.Common.{◌≡◌, ◌∙◌, sym, ap, subst, refl, Bool, true, false, cond, List, [], ◌∷◌, Option, Some, None, is_some, option_and_then, unwrap_or}
use Rattle.std.proofs.lemmas.Bool.{false≢true}
use Rattle.law_renumber.specs.sql_keyword.declared.words.TheConstants.Keyword as keyword
use Rattle.law_renumber.specs.sql_token.declared.terminal.Terminal.{Terminal}
use Rattle.law_renumber.specs.sql_token.declared.token.Span.{Span}
use Rattle.law_renumber.specs.sql_token.Depth.{has_keyword, span_of}
use Rattle.law_renumber.specs.sql_token.Sound.{is_sound}
use Rattle.law_renumber.specs.sql_tree.declared.kinds.StmtKind.{StmtKind}
use Rattle.law_renumber.specs.sql_tree.declared.kinds.StmtKind.TheVariants as stmt
use Rattle.law_renumber.specs.sql_tree.declared.nodes.Action.{Action}
use Rattle.law_renumber.specs.sql_tree.declared.nodes.Body.{Body}
use Rattle.law_renumber.specs.sql_tree.declared.nodes.Body.TheVariants as body
use Rattle.law_renumber.specs.sql_tree.declared.nodes.Stmt.{Stmt}
use Rattle.law_renumber.specs.sql_tree.Action.{actions_of}
use Rattle.law_renumber.specs.sql_tree.Forms.{State}
use Rattle.law_renumber.specs.sql_tree.Statement.{body_by, body_shape_of, final_kind, form_from, form_of, from_verb, front_by, kind_and_body, statement, stmt_in, without_semicolon}

-- the kinds that speak of a database, a tablespace or the session
abbrev pub is_server : StmtKind → Bool
is_server stmt.CreateDatabase = true
is_server stmt.DropDatabase = true
is_server stmt.CreateTablespace = true
is_server stmt.DropTablespace = true
is_server stmt.Discard = true
is_server _ = false

no_table : (b : Bool) → is_server (cond b stmt.CreateTableAs stmt.CreateTable) ≡ true → ⊥
no_table true h = false≢true h
no_table false h = false≢true h

-- an ALTER SYSTEM
abbrev pub is_system : StmtKind → Bool
is_system stmt.AlterSystem = true
is_system _ = false

-- with actions
abbrev pub has_actions : Body → Bool
has_actions (body.Alter path actions) = true
has_actions _ = false

no_system : (b : Bool) → is_system (cond b stmt.CreateTableAs stmt.CreateTable) ≡ true → ⊥
no_system true h = false≢true h
no_system false h = false≢true h

server_kept : (kind : StmtKind) (s : State) (ts : List Terminal) → is_server (final_kind kind s) ≡ true → body_by (body_shape_of kind) kind s ts ≡ Some body.Kept
unfolding body_shape_of body_by final_kind
server_kept stmt.CreateDatabase s ts h = refl
server_kept stmt.DropDatabase s ts h = refl
server_kept stmt.CreateTablespace s ts h = refl
server_kept stmt.DropTablespace s ts h = refl
server_kept stmt.Discard s ts h = refl
server_kept stmt.CreateTable s ts h = absurd (no_table (has_keyword keyword.AS s.left) h)
server_kept _ s ts h = absurd (false≢true h)

alter_kept : (path : Option Span) (o : Option (List Action)) (b : Body) → option_and_then (λ actions. Some (body.Alter path actions)) o ≡ Some b → has_actions b ≡ true
alter_kept path None b e = absurd (false≢true (ap is_some e))
alter_kept path (Some actions) b e = sym (ap (λ o. has_actions (unwrap_or o b)) e)

system_kept : (kind : StmtKind) (s : State) (ts : List Terminal) (b : Body) → is_system (final_kind kind s) ≡ true → body_by (body_shape_of kind) kind s ts ≡ Some b → has_actions b ≡ true
unfolding body_shape_of body_by final_kind
system_kept stmt.AlterSystem s ts b h e = alter_kept s.kept.path (actions_of stmt.AlterSystem s.left) b e
system_kept stmt.CreateTable s ts b h e = absurd (no_system (has_keyword keyword.AS s.left) h)
system_kept _ s ts b h e = absurd (false≢true h)

-- Of a statement of such a kind the body keeps nothing else, and of an ALTER SYSTEM it keeps actions.
abbrev pub Fits : StmtKind → Body → Type 0
Fits kind b = (is_server kind ≡ true → b ≡ body.Kept) × (is_system kind ≡ true → has_actions b ≡ true)

abbrev FormFits : StmtKind × Body → Type 0
FormFits r = Fits r.0 r.1

kind_alone : (kind : StmtKind) (r : StmtKind × Body) → is_system kind ≡ false → Some (kind, body.Kept) ≡ Some r → FormFits r
kind_alone kind r other e = subst FormFits (ap (λ o. unwrap_or o r) e) (λ h. refl, λ h. absurd (false≢true (sym other ∙ h)))

body_fits : (kind : StmtKind) (s : State) (ts : List Terminal) (r : StmtKind × Body) (o : Option Body) → body_by (body_shape_of kind) kind s ts ≡ o
    → option_and_then (λ b. Some (final_kind kind s, b)) o ≡ Some r → FormFits r
body_fits kind s ts r None is e = absurd (false≢true (ap is_some e))
body_fits kind s ts r (Some b) is e =
    subst FormFits (ap (λ o. unwrap_or o r) e)
    (λ h. ap (λ o. unwrap_or o b) (sym is ∙ server_kept kind s ts h), λ h. system_kept kind s ts b h is)

state_fits : (ts : List Terminal) (f : StmtKind × State) (r : StmtKind × Body) → kind_and_body ts f ≡ Some r → FormFits r
unfolding kind_and_body
state_fits ts f r e = body_fits f.0 f.1 ts r (body_by (body_shape_of f.0) f.0 f.1 ts) refl e

front_fits : (ts : List Terminal) (o : Option (StmtKind × State)) (r : StmtKind × Body) → option_and_then (kind_and_body ts) o ≡ Some r → FormFits r
front_fits ts None r e = absurd (false≢true (ap is_some e))
front_fits ts (Some f) r e = state_fits ts f r e

rest_fits : (ts : List Terminal) (r : StmtKind × Body) → form_from ts ≡ Some r → FormFits r
unfolding form_from
rest_fits [] r e = kind_alone stmt.Select r refl e
rest_fits (t ∷ ts) r e = front_fits ts (front_by t.symbol ts) r e

form_fits : (ts : List Terminal) (r : StmtKind × Body) → form_of ts ≡ Some r → FormFits r
unfolding form_of
form_fits [] r e = kind_alone stmt.Empty r refl e
form_fits (t ∷ ts) r e = rest_fits (from_verb (t ∷ ts)) r e

-- The same of a statement.
abbrev pub KeepsKind : Stmt → Type 0
KeepsKind s = Fits s.kind s.body

statement_by : (ts : List Terminal) (o : Option (StmtKind × Body)) → form_of (without_semicolon ts) ≡ o → (s : Stmt)
    → option_and_then (λ f. Some (stmt_in (span_of ts) f)) o ≡ Some s → KeepsKind s
statement_by ts None is s e = absurd (false≢true (ap is_some e))
statement_by ts (Some f) is s e = subst KeepsKind (ap (λ o. unwrap_or o s) e) (form_fits (without_semicolon ts) f is)

statement_if : (ts : List Terminal) (b : Bool) (s : Stmt) → cond b (option_and_then (λ f. Some (stmt_in (span_of ts) f)) (form_of (without_semicolon ts))) None ≡ Some s → KeepsKind s
statement_if ts true s e = statement_by ts (form_of (without_semicolon ts)) refl s e
statement_if ts false s e = absurd (false≢true (ap is_some e))

-- A statement of the tree of a text keeps what fits its kind.
pub keeps_kind : (ts : List Terminal) (s : Stmt) → statement ts ≡ Some s → KeepsKind s
unfolding statement
keeps_kind ts s e = statement_if ts (is_sound ts) s e
