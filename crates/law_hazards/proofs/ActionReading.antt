-- Each action of an ALTER TABLE, and the terminals that it is read from.
use Rattle.std.proofs.Common.{◌≡◌, ◌∙◌, sym, ap, subst, refl, ℕ, ◌+◌, ◌-◌, ◌==◌, Bool, true, false, ◌&&◌, cond, List, [], ◌∷◌, ◌++◌, drop, take, length, All, Contains, Option, Some, None, is_some, unwrap_or, option_and_then}
use Rattle.std.proofs.lemmas.Bool.{false≢true}
use Rattle.std.proofs.lemmas.List.{append_assoc, take-append-drop}
use Rattle.std.proofs.lemmas.List.Elements.{All-cons, All-contains, All-head, All-nil, All-tail}
use Rattle.law_renumber.specs.sql_keyword.declared.words.TheConstants.Keyword as keyword
use Rattle.law_renumber.specs.sql_token.declared.terminal.Terminal.{Terminal}
use Rattle.law_renumber.specs.sql_token.declared.token.Span.{Span}
use Rattle.law_renumber.specs.sql_token.Depth.{has_keyword, one_if, onto, span_of}
use Rattle.law_renumber.specs.sql_token.Sound.{is_sound}
use Rattle.law_renumber.specs.sql_token.Terminal.{is_closer, is_opener, is_semicolon}
use Rattle.law_renumber.specs.sql_tree.declared.kinds.StmtKind.{StmtKind}
use Rattle.law_renumber.specs.sql_tree.declared.kinds.StmtKind.TheVariants as stmt
use Rattle.law_renumber.specs.sql_tree.declared.nodes.Action.{Action}
use Rattle.law_renumber.specs.sql_tree.declared.nodes.Body.{Body}
use Rattle.law_renumber.specs.sql_tree.declared.nodes.Body.TheVariants as body
use Rattle.law_renumber.specs.sql_tree.declared.nodes.Stmt.{Stmt}
use Rattle.law_renumber.specs.sql_tree.Action.{action, actions_of, several_actions}
use Rattle.law_renumber.specs.sql_tree.Forms.{State}
use Rattle.law_renumber.specs.sql_tree.Nodes.{actions_in}
use Rattle.law_renumber.specs.sql_tree.Split.{Test, all_of, and_others, comma, split, split_from}
use Rattle.law_renumber.specs.sql_tree.Statement.{body_by, body_shape_of, final_kind, form_from, form_of, from_verb, front_by, kind_and_body, last_of, statement, stmt_in, without_semicolon}
use Rattle.law_renumber.proofs.Left.{front_left, verb_left}
use Rattle.law_renumber.proofs.There.{IfThere, from_there}
use Rattle.law_hazards.proofs.Reading.{IsRead}

-- These terminals follow one another among all of them.
pub record IsWithin (all own : List Terminal) : Type 0 where
  pub before : List Terminal
  pub after : List Terminal
  pub parts : all ≡ before ++ (own ++ after)

-- The action of an ALTER TABLE is what such terminals are.
pub record IsReadAction (all : List Terminal) (a : Action) : Type 0 where
  pub own : List Terminal
  pub within : IsWithin all own
  pub is_action : action stmt.AlterTable own ≡ Some a

abbrev is_alter_table : StmtKind → Bool
is_alter_table stmt.AlterTable = true
is_alter_table _ = false

no_alter : (b : Bool) → is_alter_table (cond b stmt.CreateTableAs stmt.CreateTable) ≡ true → ⊥
no_alter true h = false≢true h
no_alter false h = false≢true h

module _ (all : List Terminal) where
  -- ---- terminals that follow one another

  rest_within : (t : Terminal) (ts : List Terminal) → IsWithin all (t ∷ ts) → IsWithin all ts
  rest_within t ts w = record {
    before = w.before ++ (t ∷ []);
    after = w.after;
    parts = w.parts ∙ sym (append_assoc w.before (t ∷ []) (ts ++ w.after));
  }

  front_within : (own rest ts : List Terminal) → ts ≡ own ++ rest → IsWithin all ts → IsWithin all own
  front_within own rest ts cut w = record {
    before = w.before;
    after = rest ++ w.after;
    parts = w.parts ∙ ap (λ us. w.before ++ us) (ap (λ us. us ++ w.after) cut ∙ append_assoc own rest w.after);
  }

  short_within : (ts : List Terminal) → IsWithin all ts → IsWithin all (without_semicolon ts)
  short_within ts w = by (is_semicolon (last_of ts))
    where
      n : ℕ
      n = length ts - 1

      by : (b : Bool) → IsWithin all (cond b (take n ts) ts)
      by true = front_within (take n ts) (drop n ts) ts (sym (take-append-drop n ts)) w
      by false = w

  -- ---- the parts between commas

  -- The first part comes first in these terminals, and the others are among all of them.
  abbrev Cut : List Terminal → List (List Terminal) → Type 0
  Cut ts [] = Unit {0}
  Cut ts (p ∷ ps) = ((rest : List Terminal) × (ts ≡ p ++ rest)) × All (IsWithin all) ps

  cut_within : (ts : List Terminal) (ps : List (List Terminal)) → Cut ts ps → IsWithin all ts → All (IsWithin all) ps
  cut_within ts [] cut w = All-nil (IsWithin all)
  cut_within ts (p ∷ ps) cut w = All-cons (IsWithin all) p ps (front_within p cut.0.0 ts cut.0.1 w) cut.1

  onto_cut : (t : Terminal) (ts : List Terminal) (ps : List (List Terminal)) → Cut ts ps → Cut (t ∷ ts) (onto t ps)
  onto_cut t ts [] cut = ((ts, refl), All-nil (IsWithin all))
  onto_cut t ts (p ∷ ps) cut = ((cut.0.0, ap (λ us. t ∷ us) cut.0.1), cut.1)

  cut_by : (b : Bool) (t : Terminal) (ts : List Terminal) (ps qs : List (List Terminal)) → IsWithin all ts → Cut ts ps → Cut ts qs → Cut (t ∷ ts) (cond b ([] ∷ ps) (onto t qs))
  cut_by true t ts ps qs w anew on = ((t ∷ ts, refl), cut_within ts ps anew w)
  cut_by false t ts ps qs w anew on = onto_cut t ts qs on

  split_cut : (mark : Test) (earlier : Option Terminal) (o c : ℕ) (ts : List Terminal) → IsWithin all ts → Cut ts (split_from mark earlier o c ts)
  split_cut mark earlier o c [] w = (([], refl), All-nil (IsWithin all))
  split_cut mark earlier o c (t ∷ ts) w =
      let left = rest_within t ts w in
      cut_by (o == c && mark earlier t ts) t ts (split_from mark (Some t) 0 0 ts) (split_from mark (Some t) (o + one_if (is_opener t)) (c + one_if (is_closer t)) ts) left
      (split_cut mark (Some t) 0 0 ts left) (split_cut mark (Some t) (o + one_if (is_opener t)) (c + one_if (is_closer t)) ts left)

  -- ---- actions

  abbrev AreRead : List Action → Type 0
  AreRead = All (IsReadAction all)

  read_by : (ts : List Terminal) (o : Option Action) → action stmt.AlterTable ts ≡ o → IsWithin all ts → (r : Option (List Action)) → IfThere AreRead r
      → IfThere AreRead (and_others o r)
  read_by ts None is w r others = tt
  read_by ts (Some a) is w None others = tt
  read_by ts (Some a) is w (Some more) others = All-cons (IsReadAction all) a more (record { own = ts; within = w; is_action = is }) others

  read_parts : (tss : List (List Terminal)) → All (IsWithin all) tss → IfThere AreRead (all_of (action stmt.AlterTable) tss)
  read_parts [] w = All-nil (IsReadAction all)
  read_parts (ts ∷ tss) w =
      read_by ts (action stmt.AlterTable ts) refl (All-head (IsWithin all) ts tss w) (all_of (action stmt.AlterTable) tss)
      (read_parts tss (All-tail (IsWithin all) ts tss w))

  read_actions : (ts : List Terminal) → IsWithin all ts → IfThere AreRead (actions_of stmt.AlterTable ts)
  unfolding actions_of several_actions split
  read_actions ts w =
      let parts : List (List Terminal) = split_from comma None 0 0 ts in
      read_parts parts (cut_within ts parts (split_cut comma None 0 0 ts w) w)

  -- ---- statements

  alter_reads : (path : Option Span) (o : Option (List Action)) (b : Body) → IfThere AreRead o → option_and_then (λ actions. Some (body.Alter path actions)) o ≡ Some b
      → AreRead (actions_in b)
  alter_reads path None b h e = absurd (false≢true (ap is_some e))
  alter_reads path (Some actions) b h e = subst (λ o. AreRead (actions_in (unwrap_or o b))) e h

  table_reads : (kind : StmtKind) (s : State) (ts : List Terminal) (b : Body) → is_alter_table (final_kind kind s) ≡ true → IsWithin all s.left
      → body_by (body_shape_of kind) kind s ts ≡ Some b → AreRead (actions_in b)
  unfolding body_shape_of body_by final_kind
  table_reads stmt.AlterTable s ts b h w e = alter_reads s.kept.path (actions_of stmt.AlterTable s.left) b (read_actions s.left w) e
  table_reads stmt.CreateTable s ts b h w e = absurd (no_alter (has_keyword keyword.AS s.left) h)
  table_reads _ s ts b h w e = absurd (false≢true h)

  abbrev Reads : StmtKind × Body → Type 0
  Reads f = is_alter_table f.0 ≡ true → AreRead (actions_in f.1)

  body_reads : (kind : StmtKind) (s : State) (ts : List Terminal) (o : Option Body) → body_by (body_shape_of kind) kind s ts ≡ o → IsWithin all s.left
      → IfThere Reads (option_and_then (λ b. Some (final_kind kind s, b)) o)
  body_reads kind s ts None is w = tt
  body_reads kind s ts (Some b) is w = λ h. table_reads kind s ts b h w is

  state_reads : (ts : List Terminal) (f : StmtKind × State) → IsWithin all f.1.left → IfThere Reads (kind_and_body ts f)
  unfolding kind_and_body
  state_reads ts f w = body_reads f.0 f.1 ts (body_by (body_shape_of f.0) f.0 f.1 ts) refl w

  rest_reads : (ts : List Terminal) → IsWithin all ts → IfThere Reads (form_from ts)
  unfolding form_from
  rest_reads [] w = λ h. absurd (false≢true h)
  rest_reads (t ∷ ts) w =
      from_there (λ (f : StmtKind × State). IsWithin all f.1.left) Reads (kind_and_body ts) (state_reads ts) (front_by t.symbol ts)
      (front_left (IsWithin all) rest_within t.symbol ts (rest_within t ts w))

  form_reads : (ts : List Terminal) → IsWithin all ts → IfThere Reads (form_of ts)
  unfolding form_of
  form_reads [] w = λ h. absurd (false≢true h)
  form_reads (t ∷ ts) w = rest_reads (from_verb (t ∷ ts)) (verb_left (IsWithin all) rest_within (t ∷ ts) w)

  statement_by : (span : Span) (o : Option (StmtKind × Body)) (s : Stmt) → IfThere Reads o → option_and_then (λ f. Some (stmt_in span f)) o ≡ Some s → Reads (s.kind, s.body)
  statement_by span None s h e = absurd (false≢true (ap is_some e))
  statement_by span (Some f) s h e = subst (λ (o : Option Stmt). Reads ((unwrap_or o s).kind, (unwrap_or o s).body)) e h

  statement_reads : (own : List Terminal) (s : Stmt) → IsWithin all own → statement own ≡ Some s → Reads (s.kind, s.body)
  unfolding statement
  statement_reads own s w is = by (is_sound own) is
    where
      by : (b : Bool) → cond b (option_and_then (λ f. Some (stmt_in (span_of own) f)) (form_of (without_semicolon own))) None ≡ Some s → Reads (s.kind, s.body)
      by true e = statement_by (span_of own) (form_of (without_semicolon own)) s (form_reads (without_semicolon own) (short_within own w)) e
      by false e = absurd (false≢true (ap is_some e))

  -- an action of an ALTER TABLE
  pub action_read : (s : Stmt) → IsRead all s → s.kind ≡ stmt.AlterTable → (path : Option Span) (actions : List Action) → s.body ≡ body.Alter path actions
      → (a : Action) → Contains actions a → IsReadAction all a
  action_read s read kind path actions has a is =
      let within : IsWithin all read.own = record { before = read.before; after = read.after; parts = read.parts } in
      let reads : AreRead (actions_in s.body) = statement_reads read.own s within read.is_statement (ap is_alter_table kind) in
      All-contains (IsReadAction all) actions a (subst (λ b. AreRead (actions_in b)) has reads) is
