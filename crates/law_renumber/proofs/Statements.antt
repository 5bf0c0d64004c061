-- Statements of changed terminals.
use Rattle.std.proofs.Common.{◌≡◌, ◌∙◌, ℕ, ◌+◌, ◌-◌, List, [], ◌∷◌, length, map, take, refl, ap, Option, Some, None}
use Rattle.std.specs.Option.{option_map, option_and_then, is_some}
use Rattle.std.proofs.lemmas.List.{length-map, take-map}
use Rattle.sql_tree.specs.sql_keyword.declared.words.Keyword.{Keyword}
use Rattle.sql_tree.specs.sql_keyword.declared.words.Keyword.TheVariants as k
use Rattle.sql_tree.specs.sql_keyword.declared.words.Verb.TheVariants as verbs
use Rattle.sql_tree.specs.sql_keyword.declared.words.Other.TheVariants as others
use Rattle.sql_tree.specs.sql_keyword.declared.words.TheConstants.Keyword as keyword
use Rattle.sql_token.specs.declared.token.Span.{Span}
use Rattle.sql_token.specs.declared.terminal.Symbol.{Symbol}
use Rattle.sql_token.specs.declared.terminal.Symbol.TheVariants as symbol
use Rattle.sql_token.specs.declared.terminal.Terminal.{Terminal}
use Rattle.sql_token.specs.Terminal.{is_semicolon, is_opener, is_closer}
use Rattle.sql_token.specs.Depth.{one_if, has_keyword_from, has_keyword, span_of}
use Rattle.sql_token.specs.Sound.{is_sound}
use Rattle.sql_tree.specs.declared.kinds.StmtKind.{StmtKind}
use Rattle.sql_tree.specs.declared.kinds.StmtKind.TheVariants as stmt
use Rattle.sql_tree.specs.declared.forms.Captures.{Captures}
use Rattle.sql_tree.specs.declared.nodes.Body.{Body}
use Rattle.sql_tree.specs.declared.nodes.Body.TheVariants as body
use Rattle.sql_tree.specs.declared.forms.BodyShape.{BodyShape}
use Rattle.sql_tree.specs.declared.forms.BodyShape.TheVariants as shape
use Rattle.sql_tree.specs.Forms.{State, Row, family_first, create_rows, alter_rows, drop_rows, rows_of, one_word_kind, kind_or_row, led_by}
use Rattle.sql_tree.specs.Split.{verb}
use Rattle.sql_tree.specs.Tails.{paths_from}
use Rattle.sql_tree.specs.Statement.{last_of, without_semicolon, final_kind, body_shape_of, table_body, index_body, into_body, drop_body, alter_body, domain_body, made_body, write_body, body_by, kind_and_body, front_by, from_verb, form_from, form_of, stmt_in, statement}
use Rattle.law_renumber.specs.Moved.{span_moved, body_moved, form_moved, stmt_moved}
use Rattle.law_renumber.specs.Options.{ActionsKept, LeftKept, FrontKept, StatementKept}
use Rattle.law_renumber.specs.Renumber.{renumber, captures_moved, state_moved, front_moved}
use Rattle.law_renumber.specs.Trees.{FormRenumbers, StatementRenumbers}
use Rattle.law_renumber.proofs.Seen.{numbers, kin_sees, front_sees, semicolon_sees, Change, Changes, changed}
use Rattle.law_renumber.proofs.Basics.{moves, is_some_moved, bind_moved, bind_there, cond_under, last_terminal, last_moved}
use Rattle.law_renumber.proofs.There.{IfThere}
use Rattle.law_renumber.proofs.Options.{by_words, by_all}
use Rattle.law_renumber.proofs.Marks.{verb_is_blind, from_mark_moved}
use Rattle.law_renumber.proofs.Columns.{elements_renumber, drop_renumbers, domain_renumbers}
use Rattle.law_renumber.proofs.Actions.{actions_renumber}
use Rattle.law_renumber.proofs.Writes.{targets_renumber, view_renumbers, write_renumbers}
use Rattle.law_renumber.proofs.Fronts.{front_renumbers}
use Rattle.law_renumber.proofs.Tails.{paths_from_moved, reindex_moved, full_vacuum_sees, vacuum_tables_moved, last_cascade_moved, parameter_moved, lock_mode_sees}
use Rattle.law_renumber.proofs.Soundness.{sound_renumbers}

-- ---- kinds

has_keyword_from_sees : (f : Change) (w : Keyword) (o c : ℕ) (ts : List Terminal) →
    has_keyword_from w o c (map (changed f) ts) ≡ has_keyword_from w o c ts
has_keyword_from_sees f w o c [] = refl
has_keyword_from_sees f w o c (t ∷ ts) =
    simp (has_keyword_from_sees f w (o + one_if (is_opener t)) (c + one_if (is_closer t)) ts, moves)

has_keyword_sees : (f : Change) (w : Keyword) (ts : List Terminal) → has_keyword w (map (changed f) ts) ≡ has_keyword w ts
unfolding has_keyword
has_keyword_sees f w ts = has_keyword_from_sees f w 0 0 ts

kind_sees : (f : Change) (kind : StmtKind) (s : State) → final_kind kind (state_moved (changed f) f.number s) ≡ final_kind kind s
unfolding final_kind
kind_sees f stmt.CreateTable s = rw (has_keyword_sees f keyword.AS s.left) refl
kind_sees f kind s = refl

-- ---- bodies

table_body_moved : (f : Change) (s : State) → table_body (state_moved (changed f) f.number s) ≡ option_map (body_moved f.number) (table_body s)
table_body_moved f s = simp (elements_renumber, drop_renumbers, moves)

index_body_moved : (f : Change) (c : Captures) → index_body (captures_moved f.number c) ≡ option_map (body_moved f.number) (index_body c)
index_body_moved f c = simp moves

into_body_moved : (f : Change) (c : Captures) (query : List Terminal) →
    into_body (captures_moved f.number c) (map (changed f) query) ≡ option_map (body_moved f.number) (into_body c query)
into_body_moved f c query = simp (targets_renumber, moves)

drop_body_moved : (f : Change) (s : State) → drop_body (state_moved (changed f) f.number s) ≡ option_map (body_moved f.number) (drop_body s)
drop_body_moved f s = rw (is_some_moved f.number s.kept.concurrently) (dropped s.kept.word s.kept.path)
  where
    dropped : (word : Option ℕ) (path : Option Span) →
        option_and_then (λ w. option_and_then (λ p.
        Some (body.Drop w (is_some s.kept.concurrently) s.kept.guarded (paths_from p.first p.last (map (changed f) s.left))))
        (option_map (span_moved f.number) path)) (option_map f.number word)
        ≡ option_map (body_moved f.number) (option_and_then (λ w. option_and_then (λ p.
        Some (body.Drop w (is_some s.kept.concurrently) s.kept.guarded (paths_from p.first p.last s.left))) path) word)
    dropped None path = refl
    dropped (Some w) None = refl
    dropped (Some w) (Some p) =
        ap (λ paths. Some (body.Drop (f.number w) (is_some s.kept.concurrently) s.kept.guarded paths)) (paths_from_moved f p.first p.last s.left)

alter_body_moved : (f : Change) (kind : StmtKind) (s : State) → ActionsKept (changed f) kind s.left →
    alter_body kind (state_moved (changed f) f.number s) ≡ option_map (body_moved f.number) (alter_body kind s)
alter_body_moved f kind s h = simp (actions_renumber f kind s.left h, moves)

domain_body_moved : (f : Change) (tail : List Terminal) → domain_body (map (changed f) tail) ≡ option_map (body_moved f.number) (domain_body tail)
domain_body_moved f tail = simp (domain_renumbers, moves)

made_body_moved : (f : Change) (c : Captures) → made_body (captures_moved f.number c) ≡ option_map (body_moved f.number) (made_body c)
made_body_moved f c = simp moves

write_body_moved : (f : Change) (kind : StmtKind) (s : State) →
    write_body kind (state_moved (changed f) f.number s) ≡ option_map (body_moved f.number) (write_body kind s)
write_body_moved f kind s = simp (write_renumbers, moves)

body_by_moved : (f : Change) (x : BodyShape) (kind : StmtKind) (s : State) (ts : List Terminal) → LeftKept (changed f) x (kind, s) →
    body_by x kind (state_moved (changed f) f.number s) (map (changed f) ts) ≡ option_map (body_moved f.number) (body_by x kind s ts)
unfolding body_by
body_by_moved f shape.Kept kind s ts h = refl
body_by_moved f shape.End kind s ts h = refl
body_by_moved f shape.Table kind s ts h = table_body_moved f s
body_by_moved f shape.Into kind s ts h = into_body_moved f s.kept ts
body_by_moved f shape.Index kind s ts h = index_body_moved f s.kept
body_by_moved f shape.Drop kind s ts h = drop_body_moved f s
body_by_moved f shape.Reindex kind s ts h = reindex_moved f s.left
body_by_moved f shape.Alter kind s ts h = alter_body_moved f kind s h
body_by_moved f shape.Domain kind s ts h = domain_body_moved f s.left
body_by_moved f shape.Made kind s ts h = made_body_moved f s.kept
body_by_moved f shape.View kind s ts h = ap (λ v. Some (body.View v)) (view_renumbers f s.kept.replace s.left)
body_by_moved f shape.Code kind s ts h = refl
body_by_moved f shape.Truncate kind s ts h = ap (λ n. Some (body.Truncate n)) (last_cascade_moved f s.left)
body_by_moved f shape.Setting kind s ts h = ap (λ name. Some (body.Setting name)) (parameter_moved f s.left)
body_by_moved f shape.Locking kind s ts h = ap (λ mode. Some (body.Locking mode)) (lock_mode_sees f s.left)
body_by_moved f shape.Refresh kind s ts h = simp moves
body_by_moved f shape.Vacuum kind s ts h = rw (full_vacuum_sees f s.left, vacuum_tables_moved f s.left) refl
body_by_moved f shape.Cluster kind s ts h = refl
body_by_moved f shape.Write kind s ts h = write_body_moved f kind s

told_moved : (f : Change) (ts : List Terminal) (r : StmtKind × State) → LeftKept (changed f) (body_shape_of r.0) r →
    kind_and_body (map (changed f) ts) (front_moved (changed f) f.number r) ≡ option_map (form_moved f.number) (kind_and_body ts r)
unfolding kind_and_body
told_moved f ts r h =
    rw (body_by_moved f (body_shape_of r.0) r.0 r.1 ts h)
    (bind_moved (body_moved f.number) (form_moved f.number)
    (λ b. Some (final_kind r.0 r.1, b)) (λ b. Some (final_kind r.0 (state_moved (changed f) f.number r.1), b))
    (λ b. ap (λ kind. Some (kind, body_moved f.number b)) (kind_sees f r.0 r.1)) (body_by (body_shape_of r.0) r.0 r.1 ts))

-- ---- the first word

family_sees : (f : Change) (ts : List Terminal) → family_first (map (changed f) ts) ≡ family_first ts
family_sees f [] = refl
family_sees f (t ∷ ts) = kin_sees f t

rows_same : (f : Change) (w : Keyword) (ts : List Terminal) → rows_of w (map (changed f) ts) ≡ rows_of w ts
unfolding rows_of
rows_same f (k.Verb verbs.Create) ts = ap create_rows (family_sees f ts)
rows_same f (k.Verb verbs.Alter) ts = ap alter_rows (family_sees f ts)
rows_same f (k.Verb verbs.Drop) ts = ap drop_rows (family_sees f ts)
rows_same f (k.Other others.Security) ts = refl
rows_same f w ts = refl

kind_or_row_moved : (f : Change) (r : Option StmtKind) (rows : List Row) (ts : List Terminal) →
    kind_or_row r rows (map (changed f) ts) ≡ option_map (front_moved (changed f) f.number) (kind_or_row r rows ts)
kind_or_row_moved f None rows ts = front_renumbers f rows ts
kind_or_row_moved f (Some kind) rows ts = refl

led_by_moved : (f : Change) (w : Keyword) (ts : List Terminal) →
    led_by w (map (changed f) ts) ≡ option_map (front_moved (changed f) f.number) (led_by w ts)
unfolding led_by
led_by_moved f w ts = rw (rows_same f w ts) (kind_or_row_moved f (one_word_kind w) (rows_of w ts) ts)

front_by_moved : (f : Change) (x : Symbol) (ts : List Terminal) →
    front_by x (map (changed f) ts) ≡ option_map (front_moved (changed f) f.number) (front_by x ts)
unfolding front_by
front_by_moved f (symbol.Keyword w) ts = led_by_moved f w ts
front_by_moved f _ ts = refl

from_verb_moved : (f : Change) (ts : List Terminal) → from_verb (map (changed f) ts) ≡ map (changed f) (from_verb ts)
unfolding from_verb
from_verb_moved f [] = refl
from_verb_moved f (t ∷ ts) = rw (from_mark_moved verb verb_is_blind f ts) (simp moves)

if_told : (g : Terminal → Terminal) (o : Option (StmtKind × State)) → ((r : StmtKind × State) → o ≡ Some r → LeftKept g (body_shape_of r.0) r) →
    IfThere (λ r. LeftKept g (body_shape_of r.0) r) o
if_told g None h = tt
if_told g (Some r) h = h r refl

form_from_moved : (f : Change) (ts : List Terminal) → FrontKept (changed f) ts → form_from (map (changed f) ts) ≡ option_map (form_moved f.number) (form_from ts)
unfolding form_from
form_from_moved f [] h = refl
form_from_moved f (t ∷ ts) h =
    rw (front_sees f t (map (changed f) ts), front_by_moved f t.symbol ts)
    (bind_there (λ r. LeftKept (changed f) (body_shape_of r.0) r) _ _ _ _ (told_moved f ts) (front_by t.symbol ts) (if_told (changed f) (front_by t.symbol ts) h))

pub form_renumbers : Changes FormRenumbers
unfolding form_of
form_renumbers f [] h = refl
form_renumbers f (t ∷ ts) h = rw (from_verb_moved f (t ∷ ts)) (form_from_moved f (from_verb (t ∷ ts)) h)

-- ---- statements

last_sees : (f : Change) (t : Terminal) (ts : List Terminal) →
    is_semicolon (last_of (map (changed f) (t ∷ ts))) ≡ is_semicolon (last_of (t ∷ ts))
last_sees f t ts = ap is_semicolon (last_terminal f t ts) ∙ semicolon_sees f (last_of (t ∷ ts))

without_semicolon_moved : (f : Change) (t : Terminal) (ts : List Terminal) →
    without_semicolon (map (changed f) (t ∷ ts)) ≡ map (changed f) (without_semicolon (t ∷ ts))
without_semicolon_moved f t ts =
    rw (last_sees f t ts, length-map ts (changed f), take-map (changed f) (length (t ∷ ts) - 1) (t ∷ ts))
    (cond_under (map (changed f)) (is_semicolon (last_of (t ∷ ts))) (take (length (t ∷ ts) - 1) (t ∷ ts)) (t ∷ ts))

stmt_in_moved : (f : Change) (t : Terminal) (ts : List Terminal) (form : StmtKind × Body) →
    stmt_in (span_of (map (changed f) (t ∷ ts))) (form_moved f.number form) ≡ stmt_moved f.number (stmt_in (span_of (t ∷ ts)) form)
stmt_in_moved f t ts form = let last = last_moved f t ts in cc

pub statement_changed : Changes StatementRenumbers
unfolding statement
statement_changed f t ts h =
    rw (
      sound_renumbers f (t ∷ ts),
      without_semicolon_moved f t ts,
      form_renumbers f (without_semicolon (t ∷ ts)) h,
      bind_moved (form_moved f.number) (stmt_moved f.number)
          (λ form. Some (stmt_in (span_of (t ∷ ts)) form)) (λ form. Some (stmt_in (span_of (map (changed f) (t ∷ ts))) form))
          (λ form. ap Some (stmt_in_moved f t ts form)) (form_of (without_semicolon (t ∷ ts))),
    )
    (cond_under (option_map (stmt_moved f.number)) (is_sound (t ∷ ts))
    (option_and_then (λ form. Some (stmt_in (span_of (t ∷ ts)) form)) (form_of (without_semicolon (t ∷ ts)))) None)

-- ---- other numbers alone

pub numbers_kept : (f : ℕ → ℕ) (ts : List Terminal) → StatementKept (renumber f) ts
numbers_kept f ts = by_all (renumber f) ts (by_words (renumber f) (λ t. refl) ts)

pub statement_renumbers : (f : ℕ → ℕ) (t : Terminal) (ts : List Terminal) →
    statement (map (renumber f) (t ∷ ts)) ≡ option_map (stmt_moved f) (statement (t ∷ ts))
statement_renumbers f t ts = statement_changed (numbers f) t ts (numbers_kept f (t ∷ ts))
