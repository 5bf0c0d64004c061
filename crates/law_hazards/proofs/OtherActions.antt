-- An action of ALTER TABLE whose tokens begin with SET LOGGED, SET UNLOGGED, SET TABLESPACE or SET ACCESS has no kind of its own.
use Rattle.std.proofs.Common.{◌≡◌, ◌∙◌, sym, ap, subst, refl, ℕ, true, ◌&&◌, List, [], ◌∷◌, map, Option, Some, None, is_some, option_and_then}
use Rattle.std.proofs.lemmas.Bool.{and_parts, false≢true}
use Rattle.law_renumber.specs.sql_keyword.Same.{same_keyword}
use Rattle.law_renumber.specs.sql_keyword.declared.words.Keyword.{Keyword}
use Rattle.law_renumber.specs.sql_keyword.declared.words.TheConstants.Keyword as keyword
use Rattle.law_renumber.specs.sql_token.declared.terminal.Terminal.{Terminal}
use Rattle.law_renumber.specs.sql_token.declared.token.Tok.{Tok}
use Rattle.law_renumber.specs.sql_token.Depth.{span_of}
use Rattle.law_renumber.specs.sql_token.Terminal.{is_keyword, terminals}
use Rattle.law_renumber.specs.sql_token.Token.{Text}
use Rattle.law_renumber.specs.sql_tree.declared.actions.TheConstants.{OTHER}
use Rattle.law_renumber.specs.sql_tree.declared.kinds.ActionKind.{ActionKind}
use Rattle.law_renumber.specs.sql_tree.declared.kinds.ActionKind.TheVariants as kinds
use Rattle.law_renumber.specs.sql_tree.declared.kinds.StmtKind.TheVariants as stmt
use Rattle.law_renumber.specs.sql_tree.declared.nodes.Action.{Action}
use Rattle.law_renumber.specs.sql_tree.Action.{action, action_in, add_constraint, added_constraint, adding, adding_after, built, by_rows, column_in, first_symbol, general_action, listed_action, options, own_action, own_part, pieces_in, takes_constraint, unlisted_action}
use Rattle.law_renumber.specs.sql_tree.ActionRows.{first_rows, first_rows_at, general_rows, general_rows_at, own_rows}
use Rattle.law_renumber.specs.sql_tree.Constraint.{table_constraint}
use Rattle.law_renumber.specs.sql_tree.Forms.{ActionRow, State, after_word, first_whole, take_part}
use Rattle.law_renumber.specs.sql_tree.Split.{after_list}
use Rattle.law_renumber.specs.sql_tree.Statement.{Tree}
use Rattle.law_renumber.proofs.There.{IfThere, either_there, then_there}
use Rattle.law_hazards.specs.Words.{action_tokens, begin_with, is_key}
use Rattle.law_hazards.proofs.ActionReading.{IsReadAction}
use Rattle.law_hazards.proofs.Begun.{Says, begun, key}
use Rattle.law_hazards.proofs.Nodes.{both_on}

-- ---- from its first terminal to its last one

abbrev HasSpan : List Terminal → Action → Type 0
HasSpan ts a = (a.first ≡ (span_of ts).first) × (a.last ≡ (span_of ts).last)

built_span : (ts : List Terminal) (kind : ActionKind) (s : State) → IfThere (HasSpan ts) (built ts kind s)
unfolding built
built_span ts kind s =
    then_there (HasSpan ts) (λ column. option_and_then (λ pieces. Some (action_in ts kind s.kept column pieces)) (pieces_in kind s.left))
    (λ column. then_there (HasSpan ts) (λ pieces. Some (action_in ts kind s.kept column pieces)) (λ pieces. (refl, refl)) (pieces_in kind s.left))
    (column_in kind s.left)

rows_span : (rows : List ActionRow) (ts : List Terminal) → IfThere (HasSpan ts) (by_rows rows ts)
unfolding by_rows
rows_span rows ts = then_there (HasSpan ts) (λ f. built ts f.0 f.1) (λ f. built_span ts f.0 f.1) (first_whole rows ts)

added_span : (ts : List Terminal) → IfThere (HasSpan ts) (added_constraint stmt.AlterTable ts)
unfolding added_constraint takes_constraint add_constraint
added_span ts =
    then_there (HasSpan ts) (adding_after ts)
    (λ rest. then_there (HasSpan ts) (λ constraint. Some (adding ts constraint)) (λ constraint. (refl, refl)) (table_constraint rest))
    (after_word keyword.ADD ts)

own_span : (ts : List Terminal) → IfThere (HasSpan ts) (own_action stmt.AlterTable ts)
unfolding own_action own_part own_rows
own_span ts = rows_span [] ts

general_span : (ts : List Terminal) → IfThere (HasSpan ts) (general_action stmt.AlterTable ts)
unfolding general_action
general_span ts =
    either_there (HasSpan ts) (added_constraint stmt.AlterTable ts) (by_rows (general_rows_at (first_symbol ts)) ts) (added_span ts)
    (rows_span (general_rows_at (first_symbol ts)) ts)

listed_span : (ts : List Terminal) → IfThere (HasSpan ts) (listed_action stmt.AlterTable ts)
unfolding listed_action
listed_span ts =
    either_there (HasSpan ts) (by_rows (first_rows_at (first_symbol ts)) ts) _ (rows_span (first_rows_at (first_symbol ts)) ts)
    (either_there (HasSpan ts) (own_action stmt.AlterTable ts) (general_action stmt.AlterTable ts) (own_span ts) (general_span ts))

unlisted_span : (ts : List Terminal) → IfThere (HasSpan ts) (unlisted_action stmt.AlterTable ts)
unfolding unlisted_action options
unlisted_span ts = rows_span (map (λ r. (r.0, r.1.now)) OTHER) ts

has_span : (ts : List Terminal) → IfThere (HasSpan ts) (action stmt.AlterTable ts)
unfolding action
has_span [] = tt
has_span (t ∷ ts) =
    either_there (HasSpan (t ∷ ts)) (listed_action stmt.AlterTable (t ∷ ts)) (unlisted_action stmt.AlterTable (t ∷ ts)) (listed_span (t ∷ ts)) (unlisted_span (t ∷ ts))

-- ---- forms

abbrev IsOther : Action → Type 0
IsOther a = a.kind ≡ kinds.Other

-- With this word after SET the action has no kind of its own.
abbrev pub IsOtherWord : Keyword → Type 0
IsOtherWord word = (m n : ℕ) (ts : List Terminal) → IfThere IsOther (action stmt.AlterTable (key keyword.SET m ∷ key word n ∷ ts))

pub logged_form : IsOtherWord keyword.LOGGED
unfolding action listed_action own_action own_part own_rows general_action added_constraint takes_constraint add_constraint unlisted_action options by_rows built column_in pieces_in first_rows_at first_rows general_rows_at general_rows take_part after_list is_keyword same_keyword
logged_form m n ts = refl

pub unlogged_form : IsOtherWord keyword.UNLOGGED
unfolding action listed_action own_action own_part own_rows general_action added_constraint takes_constraint add_constraint unlisted_action options by_rows built column_in pieces_in first_rows_at first_rows general_rows_at general_rows take_part after_list is_keyword same_keyword
unlogged_form m n ts = refl

pub tablespace_form : IsOtherWord keyword.TABLESPACE
unfolding action listed_action own_action own_part own_rows general_action added_constraint takes_constraint add_constraint unlisted_action options by_rows built column_in pieces_in first_rows_at first_rows general_rows_at general_rows take_part after_list is_keyword same_keyword
tablespace_form m n ts = refl

pub access_form : IsOtherWord keyword.ACCESS
unfolding action listed_action own_action own_part own_rows general_action added_constraint takes_constraint add_constraint unlisted_action options by_rows built column_in pieces_in first_rows_at first_rows general_rows_at general_rows take_part after_list is_keyword same_keyword
access_form m n ts = refl

-- ---- an action

-- what begins with three words begins with two
pub two_words : (t : Text) (a b c : Keyword) (toks : List Tok) → begin_with t (a ∷ b ∷ c ∷ []) toks ≡ true → begin_with t (a ∷ b ∷ []) toks ≡ true
two_words t a b c [] h = h
two_words t a b c (x ∷ []) h = h
two_words t a b c (x ∷ y ∷ toks) h =
    let one = and_parts (is_key t a x) (is_key t b y && begin_with t (c ∷ []) toks) h in
    both_on (is_key t a x) (is_key t b y && true) one.0 (both_on (is_key t b y) true (and_parts (is_key t b y) (begin_with t (c ∷ []) toks) one.1).0 refl)

module _ (word : Keyword) (form : IsOtherWord word) (tree : Tree) (a : Action) (read : IsReadAction (terminals tree.text tree.toks) a) where
  own_says : (o : Option Action) → o ≡ Some a → IfThere (HasSpan read.own) o → Says tree keyword.SET word a.first a.last
      → Says tree keyword.SET word (span_of read.own).first (span_of read.own).last
  own_says None is h says = absurd (false≢true (ap is_some is))
  own_says (Some b) is h says =
      let span : HasSpan read.own a = subst (IfThere (HasSpan read.own)) is h in
      subst (λ n. Says tree keyword.SET word (span_of read.own).first n) span.1 (subst (λ n. Says tree keyword.SET word n a.last) span.0 says)

  -- An action of a tree that begins with SET and this word has no kind of its own.
  pub other_kind : begin_with tree.text (keyword.SET ∷ word ∷ []) (action_tokens tree a) ≡ true → a.kind ≡ kinds.Other
  other_kind says =
      let within = read.within in
      let own = own_says (action stmt.AlterTable read.own) read.is_action (has_span read.own) says in
      let b = begun tree keyword.SET word within.before read.own within.after within.parts own in
      subst (IfThere IsOther) (ap (action stmt.AlterTable) (sym b.is) ∙ read.is_action) (form b.m b.n b.rest)
