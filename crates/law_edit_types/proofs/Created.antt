-- The type of a column of a CREATE TABLE becomes one word.
use Rattle.std.proofs.Common.{◌≡◌, ℕ, ◌-◌, Bool, true, false, cond, List, [], ◌∷◌, ◌++◌, map, take, drop, append_assoc, sym, refl, ap, ◌∙◌, arith, Option, Some, None}
use Rattle.std.proofs.lemmas.Bool.{false≢true, and_parts}
use Rattle.std.proofs.lemmas.List.{map-append, take-append-drop}
use Rattle.std.specs.Prelude.{◌||◌, ◌&&◌}
use Rattle.law_edit_inserts.specs.sql_keyword.declared.words.TheConstants.Keyword as keyword
use Rattle.law_edit_inserts.specs.sql_token.declared.token.Span.{Span}
use Rattle.law_edit_inserts.specs.sql_token.declared.token.TokKind.TheVariants.{Word}
use Rattle.law_edit_inserts.specs.sql_token.declared.terminal.Symbol.{Symbol}
use Rattle.law_edit_inserts.specs.sql_token.declared.terminal.Symbol.TheVariants as s
use Rattle.law_edit_inserts.specs.sql_token.declared.terminal.Terminal.{Terminal}
use Rattle.law_edit_inserts.specs.sql_token.Token.{Text}
use Rattle.law_edit_inserts.specs.sql_token.Terminal.{symbol_of, is_keyword, is_opener, is_closer, is_name, is_dot, is_opener_symbol, is_closer_symbol, is_name_symbol, is_dot_symbol}
use Rattle.law_edit_inserts.specs.sql_token.Depth.{opened, closed, has_keyword}
use Rattle.law_edit_inserts.specs.sql_token.Sound.{is_sound}
use Rattle.law_edit_inserts.specs.sql_tree.declared.kinds.StmtKind.{StmtKind}
use Rattle.law_edit_inserts.specs.sql_tree.declared.kinds.StmtKind.TheVariants as stmt
use Rattle.law_edit_inserts.specs.sql_tree.declared.nodes.Body.{Body}
use Rattle.law_edit_inserts.specs.sql_tree.declared.nodes.Body.TheVariants as body
use Rattle.law_edit_inserts.specs.sql_tree.declared.nodes.Column.{Column}
use Rattle.law_edit_inserts.specs.sql_tree.declared.nodes.ColType.{ColType}
use Rattle.law_edit_inserts.specs.sql_tree.declared.nodes.Elem.{Elem}
use Rattle.law_edit_inserts.specs.sql_tree.declared.nodes.Elem.TheVariants as elem
use Rattle.law_edit_inserts.specs.sql_tree.declared.nodes.Stmt.{Stmt}
use Rattle.law_edit_inserts.specs.sql_tree.Column.{element, elements, listed, drops_on_commit}
use Rattle.law_edit_inserts.specs.sql_tree.Groups.{is_empty, inside_list}
use Rattle.law_edit_inserts.specs.sql_tree.Split.{split, comma, is_open_round_symbol, closing, begins_with_both, on_commit_drop, has}
use Rattle.law_edit_inserts.specs.sql_tree.Statement.{statement, form_of, without_semicolon}
use Rattle.law_edit_inserts.specs.law_renumber.Moved.{stmt_moved, column_moved, elem_moved}
use Rattle.law_edit_inserts.specs.law_edit_tokens.Beside.{ends_with_name}
use Rattle.law_edit_inserts.specs.law_edit_cuts.Runs.{is_run_from, is_closed, nowhere}
use Rattle.law_edit_inserts.proofs.of_law_edit_cuts.Nested.{Next, step, level_is_closed, closed_is_level}
use Rattle.law_edit_inserts.proofs.of_law_edit_cuts.Nested.Next.{opens, closes, passes}
use Rattle.law_edit_inserts.proofs.of_law_edit_cuts.Sound.{prefix_is_level, sound_is_closed}
use Rattle.law_edit_inserts.proofs.Fields.{ended}
use Rattle.law_edit_inserts.proofs.TakenConcurrently.{parts_of}
use Rattle.law_edit_types.specs.Runs.{fused, word_term, IsTypeSymbol, last_or, BecomesWord}
use Rattle.law_edit_types.specs.Types.{is_replaced, retyped_column}
use Rattle.law_edit_types.proofs.Counts.{opened_append, closed_append}
use Rattle.law_edit_types.proofs.Runs.{ends_append, fused_first, fused_last, runs_become_words}
use Rattle.law_edit_types.proofs.TypePlaces.{last_or_is, Fuses, column_moves, column_worded}
use Rattle.law_edit_types.proofs.TypeRuns.{put, run_rest}
use Rattle.law_edit_types.specs.Created.{TableHead, table_of, head_moved, retyped_table, CreatedTypeReads}
use Rattle.law_edit_types.proofs.Actions.{statement_reads}
use Rattle.law_edit_types.proofs.BracketLists.{in_brackets, bracketed, inside_is, has_after, keyword_after}
use Rattle.law_edit_types.proofs.CreateFronts.{create_table_shows}
use Rattle.law_edit_types.proofs.CreateShapes.{IsBreak, is_path_part, all_parts}
use Rattle.law_edit_types.proofs.Elements.{list_place}

-- ---- the brackets of the statement

-- what a sound statement is without its end closes its brackets too
pub bare_closed : (us bare end : List Terminal) → is_sound us ≡ true → us ≡ bare ++ end → opened end ≡ 0 → closed end ≡ 0 → is_closed bare ≡ true
bare_closed us bare end sound parts o c =
    let all = closed_is_level us (sound_is_closed us sound) in
    level_is_closed bare (record {
      level = omega (arith, all.level, o, c, ap opened parts, ap closed parts, opened_append bare end, closed_append bare end);
      never = λ n. prefix_is_level (take n bare) (drop n bare ++ end) (ap is_sound (sym (parts ∙ ap (λ (x : List Terminal). x ++ end) (sym (take-append-drop n bare)) ∙ append_assoc (take n bare) (drop n bare) end)) ∙ sound);
    })

part_flat : (t : Terminal) → is_path_part t ≡ true → (is_opener t ≡ false) × (is_closer t ≡ false)
unfolding is_name is_dot is_opener is_closer
part_flat t h = by t.symbol h
  where
    by : (x : Symbol) → (is_name_symbol x || is_dot_symbol x) ≡ true → (is_opener_symbol x ≡ false) × (is_closer_symbol x ≡ false)
    by (s.Keyword w) h = (refl, refl)
    by s.Word h = (refl, refl)
    by s.Quoted h = (refl, refl)
    by s.Dot h = (refl, refl)
    by x h = absurd (false≢true h)

pub parts_closed : (ts : List Terminal) → all_parts ts ≡ true → is_closed ts ≡ true
parts_closed [] h = refl
parts_closed (t ∷ ts) h =
    let both = and_parts (is_path_part t) (all_parts ts) h in
    let flat = part_flat t both.0 in
    put nowhere 0 t ts (λ z. refl) (passes flat.0 flat.1 (parts_closed ts both.1))

-- ---- the list of elements

-- a list that begins with an opening bracket
pub record Begun (left : List Terminal) : Type 0 where
  pub begin : Terminal
  pub rest : List Terminal
  pub parts : left ≡ begin ∷ rest
  pub round : is_open_round_symbol begin.symbol ≡ true

none_some : (earlier : List Elem) (x : Elem) (later : List Elem) → [] ≡ earlier ++ x ∷ later → ⊥
none_some [] x later e = cc
none_some (y ∷ earlier) x later e = cc

pub begun : (left : List Terminal) (earlier : List Elem) (x : Elem) (later : List Elem) → elements left ≡ earlier ++ x ∷ later → Begun left
unfolding elements inside_list
begun [] earlier x later e = absurd (none_some earlier x later e)
begun (t ∷ ts) earlier x later e = by (is_open_round_symbol t.symbol) refl e
  where
    inside : Bool → List Terminal
    inside b = cond b (take (closing 0 0 (t ∷ ts) - 2) ts) []

    none : is_open_round_symbol t.symbol ≡ false → elements (t ∷ ts) ≡ []
    none h = λ i. cond (is_empty (inside (h i))) [] (listed (inside (h i)))

    by : (b : Bool) → is_open_round_symbol t.symbol ≡ b → elements (t ∷ ts) ≡ earlier ++ x ∷ later → Begun (t ∷ ts)
    by true h e = record { begin = t; rest = ts; parts = refl; round = h }
    by false h e = absurd (none_some earlier x later (sym (none h) ∙ e))

pub round_break : (x : Symbol) (n : ℕ) → is_open_round_symbol x ≡ true → IsBreak (record { symbol = x; number = n })
unfolding is_keyword is_dot
round_break s.OpenRound n h = record { word = λ w. refl; dot = refl }
round_break x n h = absurd (false≢true h)

pub round_opens : (t : Terminal) → is_open_round_symbol t.symbol ≡ true → is_opener t ≡ true
unfolding is_opener
round_opens t h = by t.symbol h
  where
    by : (x : Symbol) → is_open_round_symbol x ≡ true → is_opener_symbol x ≡ true
    by s.OpenRound h = refl
    by x h = absurd (false≢true h)

pub after_opener : (t : Terminal) (ts : List Terminal) → is_opener t ≡ true → is_closed (t ∷ ts) ≡ true → is_run_from nowhere 1 ts ≡ true
after_opener t ts h e = by (step nowhere 0 t ts e).next
  where
    by : Next nowhere 0 t ts → is_run_from nowhere 1 ts ≡ true
    by (opens p q f) = f
    by (closes below z p q f) = absurd (omega arith)
    by (passes p q f) = absurd (false≢true (sym p ∙ h))

-- the elements of a bracket list
pub list_elements : (begin : Terminal) (inside : List Terminal) (end : Terminal) (after : List Terminal) → is_open_round_symbol begin.symbol ≡ true → is_opener end ≡ false → is_closer end ≡ true → is_closed inside ≡ true →
    elements (bracketed begin inside end after) ≡ cond (is_empty inside) [] (map element (split comma inside))
unfolding elements
list_elements begin inside end after round p q h =
    let same = inside_is begin inside end after round (round_opens begin round) p q h in
    λ i. cond (is_empty (same i)) [] (listed (same i))

pub some_elements : (inside : List Terminal) (earlier : List Elem) (x : Elem) (later : List Elem) → cond (is_empty inside) [] (map element (split comma inside)) ≡ earlier ++ x ∷ later → map element (split comma inside) ≡ earlier ++ x ∷ later
some_elements [] earlier x later e = absurd (none_some earlier x later e)
some_elements (t ∷ inside) earlier x later e = e

full : (xs : List Terminal) (y : Terminal) (ys : List Terminal) → is_empty (xs ++ y ∷ ys) ≡ false
full [] y ys = refl
full (x ∷ xs) y ys = refl

-- what else is known of the table does not depend on what is in the brackets
drop_blind : (e : Option Terminal) (t : Terminal) (ts : List Terminal) → on_commit_drop e t ts ≡ on_commit_drop None t ts
unfolding on_commit_drop
drop_blind e t ts = refl

drop_no_bracket : (t : Terminal) (ts : List Terminal) → is_keyword keyword.ON t ≡ false → on_commit_drop None t ts ≡ false
unfolding on_commit_drop
drop_no_bracket t ts h = λ i. h i && begins_with_both keyword.COMMIT keyword.DROP ts

drops_after : (begin : Terminal) (inside : List Terminal) (end : Terminal) (after : List Terminal) → IsBreak begin → is_opener begin ≡ true → is_opener end ≡ false → is_closer end ≡ true → is_closed inside ≡ true →
    drops_on_commit (bracketed begin inside end after) ≡ has on_commit_drop after
unfolding drops_on_commit
drops_after begin inside end after none o p q h = has_after on_commit_drop drop_blind begin inside end after (λ ts. drop_no_bracket begin ts (none.word keyword.ON)) o p q h

-- ---- the statement

abbrev same_form : TableHead → List Elem → StmtKind × Body
same_form head elems = (stmt.CreateTable, table_of head elems)

-- the statement with the column's type
table_moves : (f : ℕ → ℕ) (n : ℕ) (st : Stmt) (head : TableHead) (earlier : List Elem) (c now : Column) (later : List Elem) → st.kind ≡ stmt.CreateTable → column_moved f now ≡ retyped_column n (column_moved f c) →
    stmt_moved f (record st { kind = stmt.CreateTable; body = table_of head (earlier ++ elem.Column now ∷ later) }) ≡ retyped_table f n st head earlier c later
table_moves f n st head earlier c now later kind moves =
    let list = map-append (elem_moved f) earlier (elem.Column now ∷ later) in
    (λ i. record (stmt_moved f st) { kind = sym kind i; body = table_of (head_moved f head) (list i) })
    ∙ (λ i. record (stmt_moved f st) { body = table_of (head_moved f head) (map (elem_moved f) earlier ++ elem.Column (moves i) ∷ map (elem_moved f) later) })

-- the body with other elements between the brackets
table_now : (head : TableHead) (now : List Elem) (left : List Terminal) → drops_on_commit left ≡ head.on_commit_drop → elements left ≡ now →
    body.Table head.temp head.guarded (drops_on_commit left) head.word head.path (elements left) ≡ table_of head now
table_now head now left d e = λ i. body.Table head.temp head.guarded (d i) head.word head.path (e i)

becomes : (st : Stmt) (head : TableHead) (earlier : List Elem) (c : Column) (later : List Elem) (ty : ColType) (w : Text) → st.kind ≡ stmt.CreateTable → st.body ≡ table_of head (earlier ++ elem.Column c ∷ later) → c.ty ≡ Some ty → is_replaced ty ≡ true →
    IsTypeSymbol (symbol_of Word w) → (us : List Terminal) → statement us ≡ Some st →
    BecomesWord ty.inner.first ty.inner.last w (λ now. now ≡ retyped_table (fused ty.inner.first ty.inner.last) ty.inner.first st head earlier c later) us
becomes st head earlier c later ty w kind has typed replaced symbol us e =
    let n : ℕ = ty.inner.first in
    let m : ℕ = ty.inner.last in
    let new : Terminal = word_term w n in
    let f : ℕ → ℕ = fused n m in
    let end = ended us in
    let read = parts_of us st e in
    let bare : List Terminal = without_semicolon us in
    let shape = create_table_shows bare head.temp head.guarded head.on_commit_drop head.word head.path (earlier ++ elem.Column c ∷ later) (read.form ∙ (λ i. Some (kind i, has i))) in
    let list = begun shape.left earlier (elem.Column c) later shape.elems_are in
    let opener = round_opens list.begin list.round in
    let none = round_break list.begin.symbol list.begin.number list.round in
    let front = shape.fronts list.begin list.rest list.parts none in
    let whole = bare_closed us bare end.end read.sound end.parts end.opens end.closes in
    let list_closed = run_rest nowhere 0 (front.first ∷ front.front) (list.begin ∷ list.rest) (parts_closed (front.first ∷ front.front) front.names) (ap is_closed (sym front.parts) ∙ whole) in
    let inner = in_brackets 0 list.rest (after_opener list.begin list.rest opener list_closed) in
    let left_is : shape.left ≡ bracketed list.begin inner.inside inner.end inner.after = list.parts ∙ ap (λ (l : List Terminal). list.begin ∷ l) inner.parts in
    let old = sym (list_elements list.begin inner.inside inner.end inner.after list.round inner.opener inner.closer inner.closed) ∙ ap elements (sym left_is) ∙ shape.elems_are in
    let at = list_place inner.inside earlier c later ty inner.closed (some_elements inner.inside earlier (elem.Column c) later old) typed replaced in
    let type = at.type in
    let A : List Terminal = at.front ++ at.t ∷ [] in
    let tail : List Terminal = at.tail ++ inner.end ∷ inner.after in
    let first : List Terminal = front.front ++ list.begin ∷ A in
    let list_is : (run : List Terminal) → (front.first ∷ front.front) ++ list.begin ∷ ((A ++ (run ++ at.tail)) ++ inner.end ∷ inner.after) ≡ (front.first ∷ first) ++ (run ++ tail) =
    λ run.
    ap (λ (l : List Terminal). (front.first ∷ front.front) ++ list.begin ∷ l) (append_assoc A (run ++ at.tail) (inner.end ∷ inner.after) ∙ ap (λ (l : List Terminal). A ++ l) (append_assoc run at.tail (inner.end ∷ inner.after)))
    ∙ sym (append_assoc (front.first ∷ front.front) (list.begin ∷ A) (run ++ tail)) in
    let bare_is : bare ≡ (front.first ∷ first) ++ ((type.r ∷ type.run) ++ tail) =
    front.parts ∙ ap (λ (l : List Terminal). (front.first ∷ front.front) ++ list.begin ∷ l) (inner.parts ∙ ap (λ (l : List Terminal). l ++ inner.end ∷ inner.after) at.parts) ∙ list_is (type.r ∷ type.run) in
    let parts : us ≡ (front.first ∷ first) ++ ((type.r ∷ type.run) ++ (tail ++ end.end)) =
    end.parts ∙ ap (λ (l : List Terminal). l ++ end.end) bare_is ∙ append_assoc (front.first ∷ first) ((type.r ∷ type.run) ++ tail) end.end
    ∙ ap (λ (l : List Terminal). (front.first ∷ first) ++ l) (append_assoc (type.r ∷ type.run) tail end.end) in
    let begins : type.r.number ≡ n = sym (ap (λ (x : Span). x.first) type.inner) in
    let ends : (last_or type.r type.run).number ≡ m = ap (λ (x : Terminal). x.number) (sym (last_or_is type.r type.run)) ∙ sym (ap (λ (x : Span). x.last) type.inner) in
    let named_is : front.first ∷ first ≡ (front.first ∷ (front.front ++ list.begin ∷ at.front)) ++ at.t ∷ [] = ap (λ (l : List Terminal). front.first ∷ l) (sym (append_assoc front.front (list.begin ∷ at.front) (at.t ∷ []))) in
    record {
      first = front.first;
      front = first;
      r = type.r;
      run = type.run;
      tail = tail ++ end.end;
      parts = parts;
      begins = begins;
      ends = ends;
      closed = at.ends.closed;
      named = ap ends_with_name named_is ∙ ends_append (front.first ∷ (front.front ++ list.begin ∷ at.front)) at.t [] ∙ at.name;
      reads = λ order.
          let fixed : f n ≡ n = fused_first n m order in
          let fuses : Fuses f new type.r type.run = record { fixed = fixed; first = ap f (sym begins); last = fixed ∙ sym (fused_last n m order) ∙ ap f (sym ends) } in
          let column : Column = column_worded new type.groups ty c in
          let elems : List Elem = earlier ++ elem.Column column ∷ later in
          let inside : List Terminal = A ++ new ∷ at.tail in
          let inside_closed = at.closed new symbol in
          let left : List Terminal = bracketed list.begin inside inner.end inner.after in
          let query : has_keyword keyword.AS left ≡ false =
          keyword_after keyword.AS list.begin inside inner.end inner.after (none.word keyword.AS) opener inner.opener inner.closer inside_closed
          ∙ sym (keyword_after keyword.AS list.begin inner.inside inner.end inner.after (none.word keyword.AS) opener inner.opener inner.closer inner.closed)
          ∙ ap (has_keyword keyword.AS) (sym left_is)
          ∙ shape.no_query in
          let drops : drops_on_commit left ≡ head.on_commit_drop =
          drops_after list.begin inside inner.end inner.after none opener inner.opener inner.closer inside_closed
          ∙ sym (drops_after list.begin inner.inside inner.end inner.after none opener inner.opener inner.closer inner.closed)
          ∙ ap drops_on_commit (sym left_is)
          ∙ shape.drops_is in
          let some = full A new at.tail in
          let now : elements left ≡ elems =
          list_elements list.begin inside inner.end inner.after list.round inner.opener inner.closer inside_closed
          ∙ (λ i. cond (some i) [] (map element (split comma inside)))
          ∙ at.reads new symbol in
          let form : form_of ((front.first ∷ first) ++ new ∷ tail) ≡ Some (same_form head elems) =
          ap form_of (sym (list_is (new ∷ [])))
          ∙ front.reads (inside ++ inner.end ∷ inner.after) query
          ∙ ap (λ (b : Body). Some (stmt.CreateTable, b)) (table_now head elems left drops now) in
          record {
            now = stmt_moved f (record st { kind = stmt.CreateTable; body = table_of head elems });
            has = table_moves f n st head earlier c column later kind (column_moves f c ty new type.r type.run type.groups fuses typed type.whole);
            is = statement_reads f us st front.first first type.r type.run tail end.end new (same_form head elems) e parts bare_is at.ends.closed symbol fuses form;
          };
    }

-- ---- the law

pub created_type_reads : CreatedTypeReads
created_type_reads tree before st after head earlier c later ty w is parts kind has typed replaced name apart short =
    runs_become_words tree before st after ty.inner.first ty.inner.last w _ is parts name apart short
    (λ us e. becomes st head earlier c later ty w kind has typed replaced name.symbol us e)
