-- The elements of a CREATE TABLE: one column among them, and a word in the place of its type's run.
use Rattle.std.proofs.Common.{◌≡◌, ◌≤◌, ℕ, Bool, true, false, cond, List, [], ◌∷◌, ◌++◌, map, append-nil, append_assoc, sym, refl, ap, ◌∙◌, arith, Option, Some, None}
use Rattle.std.proofs.lemmas.Bool.{or_parts}
use Rattle.std.proofs.lemmas.List.{map-append}
use Rattle.std.specs.Prelude.{◌||◌, ◌&&◌}
use Rattle.law_edit_inserts.specs.sql_keyword.declared.words.TheConstants.Keyword as keyword
use Rattle.law_edit_inserts.specs.sql_keyword.Same.{same_keyword}
use Rattle.law_edit_inserts.specs.sql_token.declared.terminal.Symbol.{Symbol}
use Rattle.law_edit_inserts.specs.sql_token.declared.terminal.Terminal.{Terminal}
use Rattle.law_edit_inserts.specs.sql_token.Terminal.{is_keyword, is_name}
use Rattle.law_edit_inserts.specs.sql_token.Depth.{opened}
use Rattle.law_edit_inserts.specs.sql_tree.declared.nodes.Column.{Column}
use Rattle.law_edit_inserts.specs.sql_tree.declared.nodes.ColType.{ColType}
use Rattle.law_edit_inserts.specs.sql_tree.declared.nodes.Constraint.{Constraint}
use Rattle.law_edit_inserts.specs.sql_tree.declared.nodes.Elem.{Elem}
use Rattle.law_edit_inserts.specs.sql_tree.declared.nodes.Elem.TheVariants as elem
use Rattle.law_edit_inserts.specs.sql_tree.Column.{column, element, leads_constraint, constraint_element, column_element, is_constraint_symbol}
use Rattle.law_edit_inserts.specs.sql_tree.Constraint.{is_exclusion, table_constraint}
use Rattle.law_edit_inserts.specs.sql_tree.Split.{split, comma}
use Rattle.law_edit_inserts.specs.law_edit_cuts.Runs.{is_closed}
use Rattle.law_edit_inserts.proofs.of_law_edit_cuts.CutLaws.{part_exchanges}
use Rattle.law_edit_inserts.proofs.of_law_edit_cuts.Nested.{opened_is, closed_is}
use Rattle.law_edit_inserts.proofs.ActionPlaces.{last_part, part_is_level}
use Rattle.law_edit_types.specs.Runs.{IsTypeSymbol}
use Rattle.law_edit_types.specs.Types.{is_replaced}
use Rattle.law_edit_types.proofs.Counts.{Flat, name_flat}
use Rattle.law_edit_types.proofs.Runs.{of_type, word_run}
use Rattle.law_edit_types.proofs.TypeParts.{Ends}
use Rattle.law_edit_types.proofs.TypePlaces.{TypeAt, column_at, column_worded}
use Rattle.law_edit_types.proofs.TypeRuns.{run_closed, run_uncut}
use Rattle.law_edit_types.proofs.Actions.{ends_of, closed_of}
use Rattle.law_edit_types.proofs.BracketLists.{levels_of, run_exchanges}

-- ---- one of several elements

pub record ElemAt (ss : List (List Terminal)) (earlier : List Elem) (x : Elem) (later : List Elem) : Type 0 where
  pub front : List (List Terminal)
  pub here : List Terminal
  pub after : List (List Terminal)
  pub parts : ss ≡ front ++ here ∷ after
  pub front_is : map element front ≡ earlier
  pub is : element here ≡ x
  pub after_is : map element after ≡ later

elem_first : {x y : Elem} {us vs : List Elem} → x ∷ us ≡ y ∷ vs → x ≡ y
elem_first e = cc

elem_rest : {x y : Elem} {us vs : List Elem} → x ∷ us ≡ y ∷ vs → us ≡ vs
elem_rest e = cc

pub elem_at : (ss : List (List Terminal)) (earlier : List Elem) (x : Elem) (later : List Elem) → map element ss ≡ earlier ++ x ∷ later → ElemAt ss earlier x later
elem_at [] [] x later e = cc
elem_at [] (y ∷ earlier) x later e = cc
elem_at (us ∷ ss) [] x later e = record { front = []; here = us; after = ss; parts = refl; front_is = refl; is = elem_first e; after_is = elem_rest e }
elem_at (us ∷ ss) (y ∷ earlier) x later e =
    let r = elem_at ss earlier x later (elem_rest e) in
    let first = elem_first e in let front = r.front_is in
    record { front = us ∷ r.front; here = r.here; after = r.after; parts = ap (λ (l : List (List Terminal)). us ∷ l) r.parts; front_is = λ i. first i ∷ front i; is = r.is; after_is = r.after_is }

-- ---- a column

-- what an element that is a column is read of
pub record ColumnRead (here : List Terminal) (c : Column) : Type 0 where
  pub t : Terminal
  pub us : List Terminal
  pub parts : here ≡ t ∷ us
  pub no_constraint : leads_constraint t us ≡ false
  pub no_like : is_keyword keyword.LIKE t ≡ false
  pub is : column (t ∷ us) ≡ Some c

pub column_read : (here : List Terminal) (c : Column) → element here ≡ elem.Column c → ColumnRead here c
unfolding element
column_read [] c e = cc
column_read (t ∷ us) c e = by (leads_constraint t us) (is_keyword keyword.LIKE t) (table_constraint (t ∷ us)) (column (t ∷ us)) refl refl refl e
  where
    inside : {x y : Column} → elem.Column x ≡ elem.Column y → x ≡ y
    inside e = cc

    by : (a b : Bool) (x : Option Constraint) (y : Option Column) → leads_constraint t us ≡ a → is_keyword keyword.LIKE t ≡ b → column (t ∷ us) ≡ y →
        cond a (constraint_element x) (cond b elem.Like (column_element y)) ≡ elem.Column c → ColumnRead (t ∷ us) c
    by true b None y p q r e = cc
    by true b (Some x) y p q r e = cc
    by false true x y p q r e = cc
    by false false x None p q r e = cc
    by false false x (Some d) p q r e = record { t = t; us = us; parts = refl; no_constraint = p; no_like = q; is = r ∙ ap (λ (x : Column). Some x) (inside e) }

-- with another tail that begins with such a word it is a column too
word_no_exclusion : (x : Symbol) (n : ℕ) (rest : List Terminal) → IsTypeSymbol x → is_exclusion (record { symbol = x; number = n } ∷ rest) ≡ false
unfolding is_keyword same_keyword
word_no_exclusion x n rest h = of_type (λ (x : Symbol). is_exclusion (record { symbol = x; number = n } ∷ rest) ≡ false) refl refl x h

no_lead : (t w : Terminal) (us rest : List Terminal) → IsTypeSymbol w.symbol → leads_constraint t us ≡ false → leads_constraint t (w ∷ rest) ≡ false
unfolding leads_constraint
no_lead t w us rest h e =
    let first = (or_parts (is_constraint_symbol t.symbol) (is_keyword keyword.EXCLUDE t && is_exclusion us) e).0 in
    let none = word_no_exclusion w.symbol w.number rest h in
    (λ i. first i || is_keyword keyword.EXCLUDE t && none i) ∙ both (is_keyword keyword.EXCLUDE t)
  where
    both : (b : Bool) → (false || b && false) ≡ false
    both true = refl
    both false = refl

element_is : (t w : Terminal) (us rest : List Terminal) (c : Column) → IsTypeSymbol w.symbol → leads_constraint t us ≡ false → is_keyword keyword.LIKE t ≡ false → column (t ∷ w ∷ rest) ≡ Some c → element (t ∷ w ∷ rest) ≡ elem.Column c
unfolding element
element_is t w us rest c h lead like is =
    let none = no_lead t w us rest h lead in
    λ i. cond (none i) (constraint_element (table_constraint (t ∷ w ∷ rest))) (cond (like i) elem.Like (column_element (is i)))

-- ---- the list

-- Where the type of one column of a list is, and what the elements are with a word for its run.
pub record ListPlace (inside : List Terminal) (earlier : List Elem) (c : Column) (later : List Elem) (ty : ColType) : Type 0 where
  pub t : Terminal
  pub name : is_name t ≡ true
  pub us : List Terminal
  pub type : TypeAt us ty
  pub front : List Terminal
  pub tail : List Terminal
  pub parts : inside ≡ (front ++ t ∷ []) ++ ((type.r ∷ type.run) ++ tail)
  pub ends : Ends type.r type.run type.groups
  pub closed : (w : Terminal) → IsTypeSymbol w.symbol → is_closed ((front ++ t ∷ []) ++ w ∷ tail) ≡ true
  pub reads : (w : Terminal) → IsTypeSymbol w.symbol → map element (split comma ((front ++ t ∷ []) ++ w ∷ tail)) ≡ earlier ++ elem.Column (column_worded w type.groups ty c) ∷ later

pub name_low : (t : Terminal) → is_name t ≡ true → Flat (t ∷ [])
name_low t h = let f = name_flat t h in record { opens = opened_is t [] false f.0; closes = closed_is t [] false f.1 }

pub list_place : (inside : List Terminal) (earlier : List Elem) (c : Column) (later : List Elem) (ty : ColType) → is_closed inside ≡ true → map element (split comma inside) ≡ earlier ++ elem.Column c ∷ later → c.ty ≡ Some ty → is_replaced ty ≡ true →
    ListPlace inside earlier c later ty
list_place inside earlier c later ty closes e typed replaced =
    let x = elem_at (split comma inside) earlier (elem.Column c) later e in
    let read = column_read x.here c x.is in
    let t : Terminal = read.t in
    let at = column_at t read.us c ty read.is typed replaced in
    let type = at.type in
    let q : List Terminal = type.groups ++ type.rest in
    let flat = name_low t at.name in
    let here_is : x.here ≡ (t ∷ []) ++ (((type.r ∷ type.run) ++ type.groups) ++ type.rest) = read.parts ∙ ap (λ (l : List Terminal). t ∷ l) type.parts in
    let ends = ends_of inside inside x.here [] (t ∷ []) type.r type.run type.groups type.rest (levels_of inside closes) (sym (append-nil inside)) refl refl here_is flat (part_is_level inside x.front x.here x.after x.parts) type.fine type.level in
    let cut : split comma inside ≡ x.front ++ ((t ∷ []) ++ ((type.r ∷ type.run) ++ q)) ∷ x.after =
    x.parts ∙ ap (λ (l : List Terminal). x.front ++ l ∷ x.after) (here_is ∙ ap (λ (l : List Terminal). t ∷ l) (append_assoc (type.r ∷ type.run) type.groups type.rest)) in
    let low : closed_of (t ∷ []) ≤ opened (t ∷ []) = omega (arith, flat.opens, flat.closes) in
    let place = part_exchanges inside x.front (t ∷ []) type.r type.run q x.after (run_uncut (type.r ∷ type.run) ends.closed) low cut in
    let last = last_part place.earlier x.front (t ∷ []) place.there.starts in
    let earlier_is = last.1 in
    let list : inside ≡ (last.0 ++ t ∷ []) ++ ((type.r ∷ type.run) ++ place.later) = place.list ∙ ap (λ (l : List Terminal). l ++ ((type.r ∷ type.run) ++ place.later)) earlier_is in
    record {
      t = t;
      name = at.name;
      us = read.us;
      type = type;
      front = last.0;
      tail = place.later;
      parts = list;
      ends = ends;
      closed = λ w s. run_exchanges 0 (last.0 ++ t ∷ []) (type.r ∷ type.run) (w ∷ []) place.later (run_closed (type.r ∷ type.run) ends.closed) (run_closed (w ∷ []) (word_run w.symbol w.number s)) (ap is_closed (sym list) ∙ closes);
      reads = λ w s.
          let front = x.front_is in let after = x.after_is in
          let new = element_is t w read.us q (column_worded w type.groups ty c) s read.no_constraint read.no_like (at.becomes w s ends) in
          ap (λ (l : List Terminal). map element (split comma (l ++ w ∷ place.later))) (sym earlier_is)
          ∙ ap (λ (l : List (List Terminal)). map element l) (place.there.cut w [] (run_uncut (w ∷ []) (word_run w.symbol w.number s)))
          ∙ map-append element x.front ((t ∷ w ∷ q) ∷ x.after)
          ∙ (λ i. front i ++ new i ∷ after i);
    }
